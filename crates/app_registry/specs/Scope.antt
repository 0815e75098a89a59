-- For whom an application is installed.
use Rattle.std.specs.Prelude.{ℕ, Bool, ◌+◌, nat_eq}
use Rattle.std.specs.declared.cmp.Ordering.{Ordering}
use Rattle.std.specs.Ordering.{nat_cmp, on}
use Rattle.app_registry.specs.declared.installs.Scope.{Scope}
use Rattle.app_registry.specs.declared.installs.Scope.TheVariants.{Everyone, One}

-- everyone comes first, and then the users by their numbers
abbrev pub scope_rank : Scope → ℕ
scope_rank Everyone = 0
scope_rank (One uid) = uid + 1

abbrev pub scope_cmp : Scope → Scope → Ordering
scope_cmp = on scope_rank nat_cmp

abbrev pub same_scope : Scope → Scope → Bool
same_scope = on scope_rank nat_eq
