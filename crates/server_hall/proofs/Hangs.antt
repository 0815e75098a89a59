-- What a seat and a front are told of the roll's log.
use Rattle.std.proofs.Common.{◌≡◌, ◌∙◌, ℕ, List, [], ◌∷◌, ◌++◌}
use mathlib.Core.List.{IsPrefix}
use Rattle.live_roll.specs.declared.events.Event.{Event}
use Rattle.live_roll.specs.declared.events.Event.TheVariants.{Entered, Hung}
use Rattle.live_roll.specs.Events.{NoneAbove, HasHung}
use Rattle.live_roll.proofs.Following.{hung_last}
use Rattle.live_desk.specs.Seat.{SeatState, EntersAt, with_note}
use Rattle.live_desk.proofs.Entering.{enters_at}

-- a seat, of an entry
pub enters : (note : ℕ) (before events : List Event) (seat now : SeatState) → now ≡ with_note note events seat
    → events ≡ before ++ Entered note ∷ [] → IsPrefix seat.events events → NoneAbove events note → EntersAt note seat now
enters note before events seat now told entry knew above = enters_at note before events seat now told entry knew above

-- a front, of a disconnect
pub hung_behind : (before events after : List Event) (to : ℕ) → after ≡ events → events ≡ before ++ Hung to ∷ [] → HasHung after to
hung_behind before events after to same is = hung_last before after to (same ∙ is)
