-- Installs: their order, and which are of a package, of an application, for a user.
use Rattle.std.specs.Prelude.{ℕ, Bool, true, false, ◌&&◌, ◌==◌, not, List, Option, Some, None}
use Rattle.std.specs.declared.cmp.Ordering.{Ordering}
use Rattle.std.specs.Ordering.{is_lt, on, then_cmp}
use Rattle.cynara_keys.specs.Text.{same_text, text_cmp}
use Rattle.app_registry.specs.Scope.{scope_cmp, same_scope}
use Rattle.app_registry.specs.declared.installs.Scope.{Scope}
use Rattle.app_registry.specs.declared.installs.Scope.TheVariants.{Everyone, One}
use Rattle.app_registry.specs.declared.installs.Install.{Install}

-- installs are in the order of package, application and scope in turn, and have one place where these agree
abbrev pub install_cmp : Install → Install → Ordering
install_cmp =
    then_cmp (on (λ install. install.package) text_cmp)
    (then_cmp (on (λ install. install.app) text_cmp) (on (λ install. install.scope) scope_cmp))

abbrev pub is_of_package : List ℕ → Install → Bool
is_of_package name install = same_text install.package name

-- the package of an install comes before the name
abbrev pub comes_before : List ℕ → Install → Bool
comes_before name install = is_lt (text_cmp install.package name)

abbrev pub is_of_app : List ℕ → Install → Bool
is_of_app app install = same_text install.app app

-- the application, installed for the scope
abbrev pub is_install_of : List ℕ → Scope → Install → Bool
is_install_of app scope install = is_of_app app install && same_scope install.scope scope

abbrev pub is_for_user : ℕ → Scope → Bool
is_for_user uid Everyone = false
is_for_user uid (One own) = own == uid

-- both are of hybrid packages, or neither is
abbrev pub same_kind : Bool → Bool → Bool
same_kind true other = other
same_kind false other = not other

-- the same author, or none in both
abbrev pub same_author : Option (List ℕ) → Option (List ℕ) → Bool
same_author (Some author) (Some other) = same_text author other
same_author None None = true
same_author author other = false
