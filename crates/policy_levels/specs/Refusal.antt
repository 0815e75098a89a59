-- Why a request for a level is refused: the first rule that it breaks.
use Rattle.std.specs.Prelude.{◌≡◌, ℕ, Bool, true, false, List, [], ◌∷◌, Option, Some, None, if◌then◌else◌, is_some}
use Rattle.app_registry.specs.Registry.{RegistryLists, kind_of}
use Rattle.app_registry.specs.declared.users.UserType.{UserType}
use Rattle.app_registry.specs.declared.users.UserType.TheVariants.{System, Admin, Normal, Guest}
use Rattle.desk_state.specs.DeskState.{DeskState}
use Rattle.desk_state.specs.Layout.{has_layout}
use Rattle.level_requests.specs.declared.requests.Setter.{Setter}
use Rattle.level_requests.specs.declared.requests.Setter.TheVariants.{Own, Administrator}
use Rattle.level_requests.specs.declared.requests.LevelRequest.{LevelRequest}
use Rattle.policy_levels.specs.declared.refusals.LevelRefusal.{LevelRefusal}
use Rattle.policy_levels.specs.declared.refusals.LevelRefusal.TheVariants.{NoLayout, UnknownUser}
use Rattle.policy_levels.specs.declared.refusals.LevelRefusal.TheVariants.{NotAdministrator, Memory}

-- users of these types set levels for others
abbrev pub administers : UserType → Bool
administers System = true
administers Admin = true
administers Normal = false
administers Guest = false

-- what stands against a user who must be registered
abbrev pub target_fault : RegistryLists → ℕ → Option LevelRefusal
target_fault registry uid = if is_some (kind_of registry uid) then None else Some (UnknownUser uid)

-- what stands against a caller of a type that is, or is not, an administrator's
abbrev pub setter_fault : RegistryLists → UserType → Setter → Option LevelRefusal
setter_fault registry kind Own = None
setter_fault registry kind (Administrator target) =
    if administers kind then target_fault registry target else Some (NotAdministrator kind)

abbrev pub caller_fault : RegistryLists → LevelRequest → Option UserType → Option LevelRefusal
caller_fault registry request None = Some (UnknownUser request.caller)
caller_fault registry request (Some kind) = setter_fault registry kind request.by

-- The first of: there is no layout; the caller is not registered; an administrator's request by a caller who is none;
-- its target is not registered.
abbrev pub fault : DeskState → LevelRequest → Option LevelRefusal
fault desk request =
    if has_layout desk.database then caller_fault desk.registry request (kind_of desk.registry request.caller)
    else Some NoLayout

-- a refusal names the fault; memory is wanting only for a request that has none
abbrev pub Refuses : LevelRefusal → Option LevelRefusal → Type 0
Refuses (Memory error) fault = fault ≡ None
Refuses refusal fault = fault ≡ Some refusal
