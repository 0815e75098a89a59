-- A connection that enters in the place of a seat.
use Rattle.std.proofs.Common.{◌≡◌, ◌∙◌, ℕ, List, [], ◌∷◌, ◌++◌, sym, ap, subst}
use mathlib.Core.List.{IsPrefix}
use Rattle.live_roll.specs.declared.events.Event.{Event}
use Rattle.live_roll.specs.declared.events.Event.TheVariants.{Entered}
use Rattle.live_roll.specs.Events.{NoneAbove}
use Rattle.live_desk.specs.Seat.{SeatState, with_note, EntersAt}

-- what the roll did to the seat, and what stood in its log then
pub enters_at : (note : ℕ) (before events : List Event) (seat now : SeatState) → now ≡ with_note note events seat
    → events ≡ before ++ Entered note ∷ [] → IsPrefix seat.events events → NoneAbove events note → EntersAt note seat now
enters_at note before events seat now is log knew above =
    let same : now.events ≡ events = ap (λ (s : SeatState). s.events) is in record {
      told = is ∙ ap (λ (es : List Event). with_note note es seat) (sym same);
      knew = subst (λ (es : List Event). IsPrefix seat.events es) (sym same) knew;
      entered = (before, same ∙ log);
      above = subst (λ (es : List Event). NoneAbove es note) (sym same) above;
    }

-- a front that has become the log was a front of it before
pub knew_log : (before now log : List Event) → IsPrefix before now → now ≡ log → IsPrefix before log
knew_log before now log begins is = subst (λ (es : List Event). IsPrefix before es) is begins
