-- What the messages of an administrator add to what was published, and what an acknowledged command leaves.
use Rattle.std.specs.Prelude.{◌≡◌, ◌⊎◌, ◌≤◌, ℕ, true, List, [], ◌∷◌, ◌++◌, length, Some}
use Rattle.desk_state.specs.DeskState.{DeskState}
use Rattle.desk_state.specs.declared.commands.Command.{Command}
use Rattle.live_roll.specs.declared.events.Event.{Event}
use Rattle.live_roll.specs.Events.{HasHung}
use Rattle.live_desk.specs.History.{IsLast, last_commit}
use Rattle.wire_messages.specs.Commands.{command_of}
use Rattle.wire_fields.specs.declared.messages.Message.{Message}
use Rattle.wire_fields.specs.declared.messages.Message.TheVariants.{Done}
use Rattle.admin_door.specs.Side.{AdminSide}

-- These states were published behind those of before. Where there are any, all connections that entered before the last
-- one are hung up. Of the hall nothing else changes but how often it was stopped.
pub record Adds (old now : AdminSide) (more : List DeskState) : Type 0 where
  pub published : now.published ≡ old.published ++ more
  pub cleared : ((more ≡ []) × (now.tally.cleared ≡ old.tally.cleared))
      ⊎ (now.tally.cleared ≡ last_commit 0 now.published)
  pub tally : now.tally ≡ record old.tally { cleared = now.tally.cleared; stop_calls = now.tally.stop_calls }
  pub calls : now.calls ≡ old.calls

-- so many at most
abbrev pub AddsAtMost : ℕ → AdminSide → AdminSide → Type 0
AddsAtMost most old now = (more : List DeskState) × (length more ≤ most) × Adds old now more

-- any number of them
abbrev pub AddsSome : AdminSide → AdminSide → Type 0
AddsSome old now = (more : List DeskState) × Adds old now more

-- A commit that was acknowledged: it is known that the folder keeps its state, that is the last one that was published,
-- and all connections that entered before it are hung up.
pub record IsAcknowledged (now : AdminSide) (commit : ℕ) : Type 0 where
  pub decided : now.decided ≡ true
  pub kept : now.desk.commit ≡ commit
  pub last : IsLast now.published now.desk
  pub cleared : now.tally.cleared ≡ commit

-- A command that is answered as done is acknowledged: and by then a disconnect up to its commit stands in this front of
-- the roll's log.
abbrev pub Acknowledges : Message → AdminSide → List Event → List Message → Type 0
Acknowledges message now hangs replies = (command : Command) (commit erased : ℕ) → command_of message ≡ Some command
    → replies ≡ Done commit erased ∷ [] → IsAcknowledged now commit × HasHung hangs commit
