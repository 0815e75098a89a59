-- The changes of `MAIN` and `MANIFESTS` by which they follow a change of the registry.
use Rattle.std.specs.Prelude.{ℕ, Bool, true, false, if◌then◌else◌, List, [], ◌∷◌}
use Rattle.std.specs.Prelude.{◌++◌, map, filter, decimal, Option, Some, None}
use Rattle.cynara_keys.specs.PolicyResult.{bucket, allow}
use Rattle.cynara_keys.specs.declared.fields.Field.TheVariants.{Any, Exact}
use Rattle.cynara_keys.specs.Key.{Key}
use Rattle.bucket_store.specs.declared.policy_changes.Change.{Change}
use Rattle.bucket_store.specs.declared.policy_changes.Change.TheVariants.{Set, Delete}
use Rattle.app_registry.specs.Install.{is_of_package, is_for_user}
use Rattle.app_registry.specs.Manifest.{grants, install_grants}
use Rattle.app_registry.specs.declared.installs.Install.{Install}
use Rattle.app_registry.specs.declared.users.UserType.{UserType}
use Rattle.desk_state.specs.Layout.{main, manifests, type_bucket}

-- the key of the policy that sends a user to the bucket of the user's type
abbrev pub user_key : ℕ → Key
user_key uid = record { client = Any; user = Exact (decimal uid); privilege = Any }

abbrev pub set_user : ℕ → UserType → Change
set_user uid kind = Set main (user_key uid) (record { kind = bucket; metadata = type_bucket kind })

abbrev pub delete_user : ℕ → Change
delete_user uid = Delete main (user_key uid)

-- a grant allowed, or taken away
abbrev pub grant_change : Bool → Key → Change
grant_change allowed key =
    if allowed then Set manifests key (record { kind = allow; metadata = [] }) else Delete manifests key

-- the same for all grants of those installs that pass a test
abbrev pub grant_changes : Bool → (Install → Bool) → List Install → List Change
grant_changes allowed test installs = map (grant_change allowed) (grants (filter test installs))

-- what an install grants is allowed: all that changes where it takes the place of no other
abbrev pub install_changes : Install → List Change
install_changes install = map (grant_change true) (install_grants install)

-- what the installs of a package granted is taken away, and then allowed what they grant now
abbrev pub package_changes : List ℕ → List Install → List Install → List Change
package_changes name before after =
    grant_changes false (is_of_package name) before ++ grant_changes true (is_of_package name) after

-- a user goes, and what the installs for this user granted
abbrev pub removal_changes : ℕ → List Install → List Change
removal_changes uid before = delete_user uid ∷ grant_changes false (λ install. is_for_user uid install.scope) before

-- the same for the package of an install, where there is one
abbrev pub app_changes : Option Install → List Install → List Install → List Change
app_changes (Some install) before after = package_changes install.package before after
app_changes None before after = []
