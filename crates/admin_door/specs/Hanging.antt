-- What the log of the roll's events says of the commands of administrators.
use Rattle.std.specs.Prelude.{◌≡◌, ◌≤◌, ◌⊎◌, ℕ, List, [], ◌∷◌, Some}
use Rattle.std.specs.List.{AllByRecursion}
use mathlib.Core.List.{IsPrefix}
use Rattle.desk_state.specs.DeskState.{DeskState}
use Rattle.desk_state.specs.declared.commands.Command.{Command}
use Rattle.live_roll.specs.declared.events.Event.{Event}
use Rattle.live_roll.specs.Events.{HasHung}
use Rattle.live_desk.specs.History.{last_commit}
use Rattle.wire_messages.specs.Commands.{command_of}
use Rattle.wire_fields.specs.declared.messages.Message.TheVariants.{Done}
use Rattle.admin_door.specs.Serving.{Exchange}

-- A front of the log that went on while states were published: where any was, a disconnect up to the last commit stands
-- in it.
pub record HangsOn (published published_now : List DeskState) (hangs hangs_now : List Event) : Type 0 where
  pub begins : IsPrefix hangs hangs_now
  pub hung : (published_now ≡ published) ⊎ HasHung hangs_now (last_commit 0 published_now)

-- a disconnect up to this commit, or up to a later one, stands in the log
abbrev pub HasHungTo : List Event → ℕ → Type 0
HasHungTo events commit = (to : ℕ) × (commit ≤ to) × HasHung events to

-- where the command of a frame was answered as done, so does one up to its commit
abbrev pub IsHung : List Event → Exchange → Type 0
IsHung events exchange = (command : Command) (commit erased : ℕ) → command_of exchange.framed.message ≡ Some command
    → exchange.replies ≡ Done commit erased ∷ [] → HasHungTo events commit

abbrev pub AreHung : List Event → List Exchange → Type 0
AreHung events exchanges = AllByRecursion (IsHung events) exchanges
