-- When a client is never given a reply that is older than what it was told.
use Rattle.std.specs.Prelude.{◌≡◌, ◌≤◌, ℕ, Bool, List, length, Ok, All}
use Rattle.cynara_keys.specs.Key.{Question}
use Rattle.desk_state.specs.DeskState.{DeskState}
use Rattle.desk_world.specs.World.{World, fresh, client_of}
use Rattle.desk_world.specs.Clients.{asked}
use Rattle.desk_world.specs.Events.{run}
use Rattle.desk_world.specs.Sound.{commit_of}
use Rattle.desk_world.specs.declared.events.Event.{Event}
use Rattle.desk_world.specs.declared.events.Event.TheVariants.{Tell}
use Rattle.desk_world.specs.declared.replies.Given.{Given}

-- the event does not tell the client of a commit
abbrev pub TellsNot : ℕ → Event → Type 0
TellsNot client event = (commit : ℕ) → event ≡ Tell client commit → ⊥

-- A client asks and is told of nothing since: whatever else happens, a reply to this ask is no older than what the
-- client has been told by then. A telling while the ask is open can overtake a reply that is on its way, so it is left
-- out.
abbrev pub NeverOlder : Type 0
NeverOlder =
    (desk : DeskState) (earlier later : List Event) (client : ℕ) (question : Question) (simple : Bool)
    (before after : World)
    → run (fresh desk) earlier ≡ Ok before → run (asked client question simple before) later ≡ Ok after
    → All (TellsNot client) later
    → All (λ (given : Given).
    given.ask ≡ length before.asks → (client_of after client).told ≤ commit_of given.reply) after.given
