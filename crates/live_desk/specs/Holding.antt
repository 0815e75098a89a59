-- What is answered at one state that a seat holds.
use Rattle.std.specs.Prelude.{◌≡◌, ◌≤◌}
use Rattle.std.specs.Borrow.{Bor, MutBor}
use Rattle.std.specs.Fn.{Once}
use Rattle.desk_state.specs.DeskState.{DeskState}
use Rattle.live_desk.specs.History.{IsLast, Rises}
use Rattle.live_desk.specs.Seat.{SeatState}

-- So it is at the last state that the seat has seen, whose commit is not below the seat's note.
abbrev pub AtLast : SeatState → (DeskState → Type 0) → Type 0
AtLast seat Is = (desk : DeskState)
    × IsLast seat.seen desk
    × Rises seat.seen
    × (seat.note ≤ desk.commit)
    × Is desk

-- A call of f that was lent this state, some room, and two values answered so, and left two other values in their
-- place.
pub record AnswersAt {F S A B R : Type 0}
    (g : Once F (Bor DeskState × (MutBor S × (MutBor A × (MutBor B × Unit {0}))))
    (R × (MutBor S × (MutBor A × (MutBor B × Unit {0})))))
    (f : F) (desk : DeskState) (first : A) (second : B) (answer : R) (first_left : A) (second_left : B)
    : Type 0 where
  pub shown : Bor DeskState
  pub room : MutBor S
  pub one : MutBor A
  pub other : MutBor B
  pub shows : shown.now ≡ desk
  pub lends : (one.now ≡ first) × (other.now ≡ second)
  pub left : MutBor S × (MutBor A × (MutBor B × Unit {0}))
  pub met : g.post f (shown, (room, (one, (other, tt)))) (answer, left)
  pub leaves : (left.1.0.now ≡ first_left) × (left.1.1.0.now ≡ second_left)
