-- Registries: users in the order of their numbers, and installs in the order of package, application and scope.
use Rattle.std.specs.Prelude.{ℕ, Bool, ◌==◌, not, if◌then◌else◌, List, []}
use Rattle.std.specs.Prelude.{Option, find, filter, map, length, option_map, option_and_then}
use Rattle.std.specs.declared.cmp.Ordering.{Ordering}
use Rattle.std.specs.List.{dedup, list_any, sum_by}
use Rattle.std.specs.Ordering.{nat_cmp, on}
use Rattle.cynara_keys.specs.Text.{same_text}
use Rattle.app_registry.specs.Install.{install_cmp, is_of_package, is_of_app, is_install_of, is_for_user}
use Rattle.app_registry.specs.Rising.{placed}
use Rattle.app_registry.specs.declared.installs.Install.{Install}
use Rattle.app_registry.specs.declared.installs.Scope.{Scope}
use Rattle.app_registry.specs.declared.users.User.{User}
use Rattle.app_registry.specs.declared.users.UserType.{UserType}

-- what a registry holds
pub record RegistryLists : Type 0 where
  pub users : List User
  pub installs : List Install

abbrev pub no_entries : RegistryLists
no_entries = record { users = []; installs = [] }

abbrev pub user_cmp : User → User → Ordering
user_cmp = on (λ user. user.uid) nat_cmp

-- ---- what a registry says

abbrev pub has_user : List User → ℕ → Bool
has_user users uid = list_any (λ user. user.uid == uid) users

-- whether a package is there: it has an install
abbrev pub has_package : RegistryLists → List ℕ → Bool
has_package registry name = list_any (is_of_package name) registry.installs

-- the author of a package, which all its installs have
abbrev pub author_of : RegistryLists → List ℕ → Option (List ℕ)
author_of registry name = option_and_then (λ install. install.author) (find (is_of_package name) registry.installs)

-- the package of an application, where it is installed
abbrev pub package_of : RegistryLists → List ℕ → Option (List ℕ)
package_of registry app = option_map (λ install. install.package) (find (is_of_app app) registry.installs)

-- the type of a user, where the user is there
abbrev pub kind_of : RegistryLists → ℕ → Option UserType
kind_of registry uid = option_map (λ user. user.kind) (find (λ user. user.uid == uid) registry.users)

-- the packages, of installs in their order
abbrev pub packages : List Install → List (List ℕ)
packages installs = dedup same_text (map (λ install. install.package) installs)

-- the privileges of all installs together
abbrev pub grant_count : List Install → ℕ
grant_count installs = sum_by (λ install. length install.privileges) installs

-- ---- changes

abbrev pub with_user : RegistryLists → ℕ → UserType → RegistryLists
with_user registry uid kind =
    record registry { users = placed user_cmp (record { uid = uid; kind = kind }) registry.users }

-- a user goes with the installs that are for this user alone
abbrev pub without_user : RegistryLists → ℕ → RegistryLists
without_user registry uid = record {
  users = filter (λ user. not (user.uid == uid)) registry.users;
  installs = filter (λ install. not (is_for_user uid install.scope)) registry.installs;
}

-- an install of an application and scope that are there takes the place of the one that was there
abbrev pub with_install : RegistryLists → Install → RegistryLists
with_install registry install = record registry { installs = placed install_cmp install registry.installs }

-- an install of the package is of this kind, and one of another package as it was
abbrev pub of_kind : List ℕ → Bool → Install → Install
of_kind name hybrid install = if is_of_package name install then record install { hybrid = hybrid } else install

-- all installs of the package are of this kind
abbrev pub with_kind : RegistryLists → List ℕ → Bool → RegistryLists
with_kind registry name hybrid = record registry { installs = map (of_kind name hybrid) registry.installs }

abbrev pub without_install : RegistryLists → List ℕ → Scope → RegistryLists
without_install registry app scope =
    record registry { installs = filter (λ install. not (is_install_of app scope install)) registry.installs }
