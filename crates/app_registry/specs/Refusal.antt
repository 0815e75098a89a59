-- Why a change of a registry is refused. The limits and the order of the refusals are this project's profile.
use Rattle.std.specs.Prelude.{◌≡◌, ℕ, Bool, ◌&&◌, not, nat_lt, if◌then◌else◌}
use Rattle.std.specs.Prelude.{List, length, Option, Some, None, option_map, find}
use Rattle.std.specs.List.{list_any}
use Rattle.std.specs.Option.{option_or}
use Rattle.cynara_keys.specs.declared.limits.Counted.{Counted}
use Rattle.cynara_keys.specs.declared.limits.Counted.TheVariants.{Users, Packages, Installs, Grants}
use Rattle.app_registry.specs.Install.{is_of_package, is_of_app, is_install_of, same_author, same_kind}
use Rattle.app_registry.specs.Registry.{RegistryLists, has_user, has_package, packages}
use Rattle.app_registry.specs.Registry.{grant_count, with_user, with_install}
use Rattle.app_registry.specs.declared.installs.Install.{Install}
use Rattle.app_registry.specs.declared.installs.Scope.{Scope}
use Rattle.app_registry.specs.declared.installs.Scope.TheVariants.{Everyone, One}
use Rattle.app_registry.specs.declared.refusals.RegistryRefusal.{RegistryRefusal}
use Rattle.app_registry.specs.declared.refusals.RegistryRefusal.TheVariants.{UnknownUser, OtherPackage, OtherAuthor}
use Rattle.app_registry.specs.declared.refusals.RegistryRefusal.TheVariants.{OtherHybrid, NotInstalled, Limit, Memory}
use Rattle.app_registry.specs.Limits.{most_users, most_packages, most_installs, most_grants}
use Rattle.app_registry.specs.declared.users.User.{User}
use Rattle.app_registry.specs.declared.users.UserType.{UserType}

-- the user is not there
abbrev pub unknown_user : List User → ℕ → Option RegistryRefusal
unknown_user users uid = if has_user users uid then None else Some (UnknownUser uid)

abbrev pub unknown_scope : List User → Scope → Option RegistryRefusal
unknown_scope users Everyone = None
unknown_scope users (One uid) = unknown_user users uid

-- an install of the same application, in another package
abbrev pub is_elsewhere : Install → Install → Bool
is_elsewhere install other = is_of_app install.app other && not (is_of_package install.package other)

abbrev pub other_package : List Install → Install → Option RegistryRefusal
other_package installs install = option_map (λ other. OtherPackage other.package) (find (is_elsewhere install) installs)

-- an install of the same package, by another author or by none where this one has one
abbrev pub is_by_another : Install → Install → Bool
is_by_another install other = is_of_package install.package other && not (same_author other.author install.author)

abbrev pub other_author : List Install → Install → Option RegistryRefusal
other_author installs install = option_map (λ other. OtherAuthor other.author) (find (is_by_another install) installs)

-- an install of the same package, of the other kind
abbrev pub is_of_other_kind : Install → Install → Bool
is_of_other_kind install other = is_of_package install.package other && not (same_kind other.hybrid install.hybrid)

abbrev pub other_kind : List Install → Install → Option RegistryRefusal
other_kind installs install = option_map (λ other. OtherHybrid other.hybrid) (find (is_of_other_kind install) installs)

-- what stands against an install of this application whatever is counted
abbrev pub owner_fault : RegistryLists → Install → Option RegistryRefusal
owner_fault registry install =
    option_or (unknown_scope registry.users install.scope)
    (option_or (other_package registry.installs install)
    (option_or (other_author registry.installs install) (other_kind registry.installs install)))

-- more than the most
abbrev pub over : Counted → ℕ → ℕ → Option RegistryRefusal
over counted most count = if nat_lt most count then Some (Limit counted most) else None

abbrev pub installs_limit : List Install → Option RegistryRefusal
installs_limit installs =
    option_or (over Packages most_packages (length (packages installs)))
    (option_or (over Installs most_installs (length installs)) (over Grants most_grants (grant_count installs)))

-- ---- the first rule that a change breaks

abbrev pub user_set_fault : RegistryLists → ℕ → UserType → Option RegistryRefusal
user_set_fault registry uid kind = over Users most_users (length (with_user registry uid kind).users)

abbrev pub user_remove_fault : RegistryLists → ℕ → Option RegistryRefusal
user_remove_fault registry uid = unknown_user registry.users uid

abbrev pub install_fault : RegistryLists → Install → Option RegistryRefusal
install_fault registry install =
    option_or (owner_fault registry install) (installs_limit (with_install registry install).installs)

abbrev pub uninstall_fault : RegistryLists → List ℕ → Scope → Option RegistryRefusal
uninstall_fault registry app scope =
    if list_any (is_install_of app scope) registry.installs then None else Some NotInstalled

-- Nothing else stands against a package of another kind: its installs, and what is counted, are as many as before.
abbrev pub convert_fault : RegistryLists → List ℕ → Option RegistryRefusal
convert_fault registry name = if has_package registry name then None else Some NotInstalled

-- The refusal names the fault. Want of memory says nothing of the change.
abbrev pub Refuses : RegistryRefusal → Option RegistryRefusal → Type 0
Refuses (Memory error) fault = Unit {0}
Refuses refusal fault = fault ≡ Some refusal
