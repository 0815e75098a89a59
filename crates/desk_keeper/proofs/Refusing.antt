-- A command that no rule stands against may still want memory.
use Rattle.std.proofs.Common.{◌≡◌, List, [], ◌∷◌, Option, Some, None, refl}
use Rattle.desk_state.specs.DeskState.{DeskState}
use Rattle.std.specs.Option.{option_map}
use Rattle.bucket_store.specs.Refusal as store
use Rattle.desk_state.specs.Layout.{has_layout}
use Rattle.desk_state.specs.Next.{request}
use Rattle.desk_state.specs.Rules.{first_of, layout_rules, fault, reserved, layout_there, no_layout, of_store}
use Rattle.desk_state.specs.Rules.{of_registry, registry_rule, registry_limit, commit_limit}
use Rattle.desk_state.specs.declared.commands.Command.{Command}
use Rattle.desk_state.specs.declared.refusals.Refusal.{Refusal}

-- no rule stands, so the second and the third do not
front-none : (first second third : Option Refusal) (rules : List (Option Refusal))
    → first_of (first ∷ second ∷ third ∷ rules) ≡ None
    → first_of (second ∷ third ∷ []) ≡ None
front-none None None None rules none = refl
front-none None None (Some refusal) rules none = cc
front-none None (Some refusal) third rules none = cc
front-none (Some refusal) second third rules none = cc

-- the rules behind those of the layout
later_rules : DeskState → Command → List (Option Refusal)
later_rules desk command =
    let asked = request desk command in
    option_map of_store (store.no_bucket asked.named desk.database)
    ∷ option_map of_store (store.root_bucket asked.removed)
    ∷ option_map of_store (store.bad_kind asked.headed)
    ∷ option_map of_registry (registry_rule desk.registry command)
    ∷ commit_limit desk.commit
    ∷ option_map of_registry (registry_limit desk.registry command)
    ∷ option_map of_store (store.limit asked.next)
    ∷ option_map of_store (store.cycle asked.next)
    ∷ []

pub layout-allows : (desk : DeskState) (command : Command) → fault desk command ≡ None
    → first_of (layout_rules desk command) ≡ None
unfolding later_rules
layout-allows desk command none =
    let laid_out = has_layout desk.database in
    front-none (reserved laid_out command) (layout_there laid_out command) (no_layout laid_out command)
    (later_rules desk command) none
