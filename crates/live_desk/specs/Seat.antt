-- A seat, and what a check of it answers.
use Rattle.std.specs.Prelude.{◌≡◌, ◌≤◌, ℕ, zero, suc, max, List, [], ◌∷◌, ◌++◌, Option, Some, None}
use mathlib.Core.List.{IsPrefix}
use Rattle.cynara_keys.specs.Key.{Question}
use Rattle.bucket_eval.specs.Lent.{outcome_lent}
use Rattle.bucket_eval.specs.Root.{root_answer, root_outcome}
use Rattle.bucket_eval.specs.declared.answers.Verdict.{Verdict}
use Rattle.desk_state.specs.DeskState.{DeskState}
use Rattle.live_roll.specs.declared.events.Event.{Event}
use Rattle.live_roll.specs.declared.events.Event.TheVariants.{Entered}
use Rattle.live_roll.specs.Events.{EndsWith, NoneAbove}
use Rattle.live_desk.specs.declared.verdicts.BorrowedVerdict.{BorrowedVerdict}
use Rattle.live_desk.specs.History.{IsLast, Rises}

-- its number, the greatest note that it was told, the published states that it has seen, and the roll's log as it was
-- told last
pub record SeatState : Type 0 where
  pub number : ℕ
  pub note : ℕ
  pub seen : List DeskState
  pub events : List Event

-- a seat that has seen nothing and was told nothing
abbrev pub new_seat : ℕ → SeatState
new_seat number = record { number = number; note = 0; seen = []; events = [] }

-- the seats with the numbers below the count, in turn
abbrev pub new_seats : ℕ → List SeatState
new_seats zero = []
new_seats (suc count) = new_seats count ++ new_seat count ∷ []

-- the seat, once it was told a note and the roll's log
abbrev pub with_note : ℕ → List Event → SeatState → SeatState
with_note note events seat = record seat { note = max seat.note note; events = events }

-- the seat, once a connection entered in its place at this commit
pub record EntersAt (note : ℕ) (seat now : SeatState) : Type 0 where
  -- it was told that commit, and a log
  pub told : now ≡ with_note note now.events seat
  -- of which it knew the first events
  pub knew : IsPrefix seat.events now.events
  -- which ends with this entry
  pub entered : EndsWith now.events (Entered note)
  -- and no connections were hung up for a later commit before
  pub above : NoneAbove now.events note

-- The copy has a state, whose commit is not below the note.
abbrev pub IsFrom : ℕ → Option DeskState → Type 0
IsFrom note None = ⊥
IsFrom note (Some desk) = note ≤ desk.commit

-- The copy's state is the last that was seen, and its commit is not below the note.
abbrev pub HasSeen : ℕ → Option DeskState → List DeskState → Type 0
HasSeen note None seen = ⊥
HasSeen note (Some desk) seen = IsLast seen desk × Rises seen × (note ≤ desk.commit)

-- The verdict is what the state answers, with its commit.
abbrev pub IsVerdict : Question → DeskState → Verdict → Type 0
IsVerdict question desk verdict =
    (verdict.commit ≡ desk.commit) × (verdict.answer ≡ root_answer desk.database question)

-- The verdict is that of the last state that the seat has seen, whose commit is not below the seat's note.
abbrev pub Answers : Question → SeatState → Verdict → Type 0
Answers question seat verdict = (desk : DeskState)
    × IsLast seat.seen desk
    × Rises seat.seen
    × (seat.note ≤ desk.commit)
    × IsVerdict question desk verdict

-- What was told was told of a verdict that is what the state answers, with its commit.
abbrev pub IsTold : Question → DeskState → (BorrowedVerdict → Type 0) → Type 0
IsTold question desk Told = (verdict : BorrowedVerdict)
    × (verdict.commit ≡ desk.commit)
    × (outcome_lent verdict.answer ≡ root_outcome desk.database question)
    × Told verdict

-- What was told was told of the verdict of the last state that the seat has seen, whose commit is not below the seat's
-- note.
abbrev pub Tells : Question → SeatState → (BorrowedVerdict → Type 0) → Type 0
Tells question seat Told = (desk : DeskState)
    × IsLast seat.seen desk
    × Rises seat.seen
    × (seat.note ≤ desk.commit)
    × IsTold question desk Told
