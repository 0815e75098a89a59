-- Why a command is refused: the first rule that it breaks, in one order for all commands.
use Rattle.std.specs.Prelude.{◌≡◌, ℕ, Bool, true, false, not, ◌&&◌, ◌||◌, ◌==◌}
use Rattle.std.specs.Prelude.{if◌then◌else◌, List, [], ◌∷◌, map, find, Option, Some, None}
use Rattle.std.specs.Option.{option_map}
use Rattle.cynara_keys.specs.declared.limits.Counted.TheVariants.{Commits}
use Rattle.bucket_store.specs.Refusal as store
use Rattle.bucket_store.specs.declared.policy_changes.Change.{Change}
use Rattle.bucket_store.specs.declared.policy_changes.Change.TheVariants.{Set, Delete}
use Rattle.bucket_store.specs.declared.refusals.StoreRefusal.TheVariants as stored
use Rattle.bucket_store.specs.declared.refusals.StoreRefusal.{StoreRefusal}
use Rattle.app_registry.specs.Refusal as registry
use Rattle.app_registry.specs.Registry.{RegistryLists, with_install}
use Rattle.app_registry.specs.declared.refusals.RegistryRefusal.TheVariants as registered
use Rattle.app_registry.specs.declared.refusals.RegistryRefusal.{RegistryRefusal}
use Rattle.desk_state.specs.DeskState.{DeskState}
use Rattle.desk_state.specs.Layout.{is_built_in, is_managed, has_layout}
use Rattle.desk_state.specs.Next.{request}
use Rattle.desk_state.specs.declared.commands.Command.{Command}
use Rattle.desk_state.specs.declared.commands.Command.TheVariants.{SetBucket, RemoveBucket, SetPolicies, Erase, Layout}
use Rattle.desk_state.specs.declared.commands.Command.TheVariants.{UserSet, UserRemove, Install, Uninstall, Convert}
use Rattle.desk_state.specs.Limits.{last_commit}
use Rattle.desk_state.specs.declared.refusals.Refusal.{Refusal}
use Rattle.desk_state.specs.declared.refusals.Refusal.TheVariants.{Reserved, LayoutThere, NoLayout, NoBucket}
use Rattle.desk_state.specs.declared.refusals.Refusal.TheVariants.{RootBucket, BadKind, UnknownUser, OtherPackage}
use Rattle.desk_state.specs.declared.refusals.Refusal.TheVariants.{OtherAuthor, OtherHybrid, NotInstalled, Limit, Cycle}
use Rattle.desk_state.specs.declared.refusals.Refusal.TheVariants.{Memory}

-- ---- rules of the layout

abbrev pub reserves : Bool → List ℕ → Option Refusal
reserves reserved name = if reserved then Some (Reserved name) else None

-- the bucket in which a change is
abbrev pub changed_bucket : Change → List ℕ
changed_bucket (Set name key result) = name
changed_bucket (Delete name key) = name

abbrev pub reserved : Bool → Command → Option Refusal
reserved laid_out (SetBucket name fallback) = reserves (is_managed name || (is_built_in name && not laid_out)) name
reserved laid_out (RemoveBucket name) = reserves (is_built_in name) name
reserved laid_out (SetPolicies changes) =
    option_map (λ name. Reserved name) (find is_managed (map changed_bucket changes))
reserved laid_out (Erase name filter) = reserves (is_managed name) name
reserved laid_out command = None

abbrev pub layout_there : Bool → Command → Option Refusal
layout_there true Layout = Some LayoutThere
layout_there laid_out command = None

-- the command is about users or installs
abbrev pub is_about_registry : Command → Bool
is_about_registry (UserSet uid kind) = true
is_about_registry (UserRemove uid) = true
is_about_registry (Install install) = true
is_about_registry (Uninstall app scope) = true
is_about_registry (Convert name hybrid) = true
is_about_registry command = false

abbrev pub no_layout : Bool → Command → Option Refusal
no_layout laid_out command = if is_about_registry command && not laid_out then Some NoLayout else None

-- ---- rules of the database and of the registry

abbrev pub of_store : StoreRefusal → Refusal
of_store (stored.NoBucket name) = NoBucket name
of_store stored.RootBucket = RootBucket
of_store (stored.BadKind kind) = BadKind kind
of_store (stored.Limit counted most) = Limit counted most
of_store (stored.Cycle name) = Cycle name
of_store (stored.Memory error) = Memory error

abbrev pub of_registry : RegistryRefusal → Refusal
of_registry (registered.UnknownUser uid) = UnknownUser uid
of_registry (registered.OtherPackage name) = OtherPackage name
of_registry (registered.OtherAuthor author) = OtherAuthor author
of_registry (registered.OtherHybrid hybrid) = OtherHybrid hybrid
of_registry registered.NotInstalled = NotInstalled
of_registry (registered.Limit counted most) = Limit counted most
of_registry (registered.Memory error) = Memory error

-- what stands against a change of the registry, whatever is counted
abbrev pub registry_rule : RegistryLists → Command → Option RegistryRefusal
registry_rule lists (UserRemove uid) = registry.user_remove_fault lists uid
registry_rule lists (Install install) = registry.owner_fault lists install
registry_rule lists (Uninstall app scope) = registry.uninstall_fault lists app scope
registry_rule lists (Convert name hybrid) = registry.convert_fault lists name
registry_rule lists command = None

abbrev pub registry_limit : RegistryLists → Command → Option RegistryRefusal
registry_limit lists (UserSet uid kind) = registry.user_set_fault lists uid kind
registry_limit lists (Install install) = registry.installs_limit (with_install lists install).installs
registry_limit lists command = None

abbrev pub commit_limit : ℕ → Option Refusal
commit_limit commit = if commit == last_commit then Some (Limit Commits last_commit) else None

-- ---- the order

abbrev pub first_of : List (Option Refusal) → Option Refusal
first_of [] = None
first_of (None ∷ rules) = first_of rules
first_of (Some refusal ∷ rules) = Some refusal

-- what is tested before memory is asked for; a reserved name is copied into its refusal
abbrev pub layout_rules : DeskState → Command → List (Option Refusal)
layout_rules desk command =
    let laid_out = has_layout desk.database in
    layout_there laid_out command ∷ no_layout laid_out command ∷ []

-- The first rule that a command breaks. Limits are in the order in which the counted things are listed.
abbrev pub fault : DeskState → Command → Option Refusal
fault desk command =
    let laid_out = has_layout desk.database in
    let asked = request desk command in
    first_of (reserved laid_out command
    ∷ layout_there laid_out command
    ∷ no_layout laid_out command
    ∷ option_map of_store (store.no_bucket asked.named desk.database)
    ∷ option_map of_store (store.root_bucket asked.removed)
    ∷ option_map of_store (store.bad_kind asked.headed)
    ∷ option_map of_registry (registry_rule desk.registry command)
    ∷ commit_limit desk.commit
    ∷ option_map of_registry (registry_limit desk.registry command)
    ∷ option_map of_store (store.limit asked.next)
    ∷ option_map of_store (store.cycle asked.next)
    ∷ [])

-- The refusal names the fault. Want of memory says that no rule tested before stands against the command.
abbrev pub Refuses : DeskState → Command → Refusal → Type 0
Refuses desk command (Memory error) = first_of (layout_rules desk command) ≡ None
Refuses desk command refusal = fault desk command ≡ Some refusal
