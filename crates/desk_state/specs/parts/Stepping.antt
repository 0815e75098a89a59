-- The parts of a step from a desk to the next.
use Rattle.std.specs.Prelude.{◌≡◌, ◌⊎◌, ℕ, ◌+◌, ◌==◌, if◌then◌else◌, List, [], ◌∷◌, Result, Ok, Err, Option, Some, None}
use Rattle.std.specs.Option.{option_map}
use Rattle.cynara_keys.specs.declared.limits.Counted.TheVariants.{Commits}
use Rattle.bucket_store.specs.Database.{Database}
use Rattle.bucket_store.specs.Refusal as store
use Rattle.bucket_store.specs.declared.refusals.StoreRefusal.TheVariants as stored
use Rattle.bucket_store.specs.declared.refusals.StoreRefusal.{StoreRefusal}
use Rattle.app_registry.specs.Registry.{RegistryLists}
use Rattle.app_registry.specs.declared.refusals.RegistryRefusal.TheVariants as registered
use Rattle.app_registry.specs.declared.refusals.RegistryRefusal.{RegistryRefusal}
use Rattle.rule_templates.specs.declared.lines.TemplateLine.{TemplateLine}
use Rattle.desk_state.specs.DeskState.{DeskState}
use Rattle.desk_state.specs.IsDesk.{IsBare, IsLaidOut}
use Rattle.desk_state.specs.Next.{next, erased_by}
use Rattle.desk_state.specs.Rules.{first_of, fault, Refuses, of_store, commit_limit, reserved, layout_there, no_layout}
use Rattle.desk_state.specs.Layout.{has_layout, settled}
use Rattle.desk_state.specs.declared.commands.Command.{Command}
use Rattle.desk_state.specs.declared.desks.Applied.{Applied}
use Rattle.desk_state.specs.Limits.{last_commit}
use Rattle.desk_state.specs.declared.refusals.Refusal.{Refusal}
use Rattle.desk_state.specs.declared.refusals.Refusal.TheVariants.{NoBucket, RootBucket, BadKind, UnknownUser}
use Rattle.desk_state.specs.declared.refusals.Refusal.TheVariants.{OtherPackage, OtherAuthor, OtherHybrid, NotInstalled}
use Rattle.desk_state.specs.declared.refusals.Refusal.TheVariants.{Limit, Cycle, Memory}

-- the desk after the next command, with these parts
abbrev pub moved : DeskState → Database → RegistryLists → List TemplateLine → DeskState
moved desk database registry template =
    record { commit = desk.commit + 1; database = database; registry = registry; template = template }

abbrev pub IsArranged : DeskState → Type 0
IsArranged desk = IsBare desk ⊎ IsLaidOut desk

-- no rule of the layout stands against the command
pub record IsAllowed (desk : DeskState) (command : Command) : Type 0 where
  pub unreserved : reserved (has_layout desk.database) command ≡ None
  pub there : layout_there (has_layout desk.database) command ≡ None
  pub known : no_layout (has_layout desk.database) command ≡ None

-- ---- refusals of the database and of the registry, where the commit number may be the last one

abbrev pub or_last : ℕ → Refusal → Refusal
or_last commit refusal = if commit == last_commit then Limit Commits last_commit else refusal

abbrev pub stored_refusal : ℕ → StoreRefusal → Refusal
stored_refusal commit (stored.Limit counted most) = or_last commit (Limit counted most)
stored_refusal commit (stored.Cycle name) = or_last commit (Cycle name)
stored_refusal commit (stored.NoBucket name) = NoBucket name
stored_refusal commit stored.RootBucket = RootBucket
stored_refusal commit (stored.BadKind kind) = BadKind kind
stored_refusal commit (stored.Memory error) = Memory error

abbrev pub registered_refusal : ℕ → RegistryRefusal → Refusal
registered_refusal commit (registered.Limit counted most) = or_last commit (Limit counted most)
registered_refusal commit (registered.UnknownUser uid) = UnknownUser uid
registered_refusal commit (registered.OtherPackage name) = OtherPackage name
registered_refusal commit (registered.OtherAuthor author) = OtherAuthor author
registered_refusal commit (registered.OtherHybrid hybrid) = OtherHybrid hybrid
registered_refusal commit registered.NotInstalled = NotInstalled
registered_refusal commit (registered.Memory error) = Memory error

-- ---- answers

-- the next desk, where a commit number is left
pub record IsStep (desk after : DeskState) (count : ℕ) (applied : Applied) : Type 0 where
  pub next : applied.desk ≡ after
  pub erased : applied.erased ≡ count
  pub room : commit_limit desk.commit ≡ None

-- or the refusal of a commit number past the last, or want of memory
abbrev pub Steps : DeskState → DeskState → ℕ → Result Applied Refusal → Type 0
Steps desk after count (Ok applied) = IsStep desk after count applied
Steps desk after count (Err (Memory error)) = Unit {0}
Steps desk after count (Err refusal) = commit_limit desk.commit ≡ Some refusal

pub record IsApplied (desk : DeskState) (command : Command) (applied : Applied) : Type 0 where
  pub next : applied.desk ≡ next desk command
  pub erased : applied.erased ≡ erased_by desk command
  pub accepted : fault desk command ≡ None

-- the state becomes the next one by a command that breaks no rule and erases nothing
pub record Becomes (desk : DeskState) (command : Command) (after : DeskState) : Type 0 where
  pub next : after ≡ next desk command
  pub erased : erased_by desk command ≡ 0
  pub accepted : fault desk command ≡ None

-- what is answered to a command
abbrev pub Answers : DeskState → Command → Result Applied Refusal → Type 0
Answers desk command (Ok applied) = IsApplied desk command applied
Answers desk command (Err refusal) = Refuses desk command refusal

-- what stands against the two buckets as a registry gives them
abbrev pub settled_fault : DeskState → RegistryLists → Option Refusal
settled_fault desk registry =
    let next = settled registry desk.database in
    first_of (commit_limit desk.commit ∷ option_map of_store (store.limit next) ∷ option_map of_store (store.cycle next)
    ∷ [])

pub record IsSettled (desk : DeskState) (registry : RegistryLists) (applied : Applied) : Type 0 where
  pub next : applied.desk ≡ moved desk (settled registry desk.database) registry desk.template
  pub erased : applied.erased ≡ 0
  pub accepted : settled_fault desk registry ≡ None

abbrev pub Settles : DeskState → RegistryLists → Result Applied Refusal → Type 0
Settles desk registry (Ok applied) = IsSettled desk registry applied
Settles desk registry (Err (Memory error)) = Unit {0}
Settles desk registry (Err refusal) = settled_fault desk registry ≡ Some refusal
