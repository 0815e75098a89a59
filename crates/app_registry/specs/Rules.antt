-- The rules that each registry keeps.
use Rattle.std.specs.Prelude.{◌≡◌, List, length, None}
use Rattle.std.specs.List.{AllByRecursion}
use Rattle.std.specs.List.Sorted.{IsStrictlySortedBy}
use Rattle.cynara_keys.specs.declared.limits.Counted.TheVariants.{Users}
use Rattle.app_registry.specs.Install.{install_cmp}
use Rattle.app_registry.specs.Refusal.{unknown_scope, other_package, other_author, other_kind, over, installs_limit}
use Rattle.app_registry.specs.Registry.{user_cmp}
use Rattle.app_registry.specs.declared.installs.Install.{Install}
use Rattle.app_registry.specs.Limits.{most_users}
use Rattle.app_registry.specs.declared.users.User.{User}

-- Each user and each install stands once, and before those behind it in the order. The user of each install is there,
-- no application is in two packages, no package has two authors or is both hybrid and plain, and no limit is passed.
pub record IsRegistry (users : List User) (installs : List Install) : Type 0 where
  pub users_rise : IsStrictlySortedBy user_cmp users
  pub installs_rise : IsStrictlySortedBy install_cmp installs
  pub users_known : AllByRecursion (λ install. unknown_scope users install.scope ≡ None) installs
  pub one_package : AllByRecursion (λ install. other_package installs install ≡ None) installs
  pub one_author : AllByRecursion (λ install. other_author installs install ≡ None) installs
  pub one_kind : AllByRecursion (λ install. other_kind installs install ≡ None) installs
  pub users_fit : over Users most_users (length users) ≡ None
  pub installs_fit : installs_limit installs ≡ None
