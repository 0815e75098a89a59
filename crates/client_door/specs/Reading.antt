-- What a check reads of the policies of a published state.
use Rattle.std.specs.Prelude.{◌≡◌, ◌==◌, ◌≤◌, ℕ, Bool, List}
use Rattle.bucket_eval.specs.Evaluation.{Outcome}
use Rattle.bucket_eval.specs.Found.{answer_of}
use Rattle.bucket_eval.specs.Root.{root_outcome}
use Rattle.bucket_eval.specs.declared.answers.Cause.{Cause}
use Rattle.bucket_eval.specs.declared.answers.Verdict.{Verdict}
use Rattle.cynara_keys.specs.Key.{Question}
use Rattle.desk_state.specs.DeskState.{DeskState}
use Rattle.live_desk.specs.History.{IsLast, Rises}
use Rattle.live_desk.specs.Seat.{SeatState}
use Rattle.wire_reading.specs.Frame.{spelling, with_sequence}
use Rattle.desk_world.specs.Links.{reading_of}
use Rattle.desk_world.specs.declared.links.Reading.{Reading}
use Rattle.desk_world.specs.declared.links.Reading.TheVariants.{Ready as IsReady, Due as IsDue}
use Rattle.cynara_keys.specs.declared.results.Kind.{Kind}
use Rattle.desk_world.specs.declared.replies.Reply.{Reply}
use Rattle.desk_world.specs.declared.replies.Reply.TheVariants.{Judged as IsJudged, NotResolved}
use Rattle.client_door.specs.Check.{message_of}
use Rattle.client_door.specs.declared.checks.Check.{Check}
use Rattle.client_door.specs.declared.readings.Read.{Read}
use Rattle.client_door.specs.declared.readings.Found.{Found}
use Rattle.client_door.specs.declared.readings.Found.TheVariants.{Judged, Unresolved, Due, Memory}

-- what a check reads at a state: what the world of events reads there
abbrev pub reading : DeskState → Check → Reading
reading desk check = reading_of desk.commit check.simple (root_outcome desk.database check.question)

-- the cause of what a state says to a question: the policy or fallback that decides, or that leaves it to an agent
abbrev pub cause_at : DeskState → Question → Cause
cause_at desk question = (answer_of (root_outcome desk.database question)).cause

-- the buffer holds the frame of this reply
abbrev pub Spells : ℕ → List ℕ → Reply → Type 0
Spells sequence frame reply = frame ≡ spelling (with_sequence sequence (message_of reply))

-- what was read is this reading; of a reply the buffer holds the frame
abbrev pub Finds : ℕ → Reading → List ℕ → Found → Type 0
Finds sequence seen frame (Judged commit allowed) = (verdict : Verdict)
    × (seen ≡ IsReady (IsJudged verdict))
    × Spells sequence frame (IsJudged verdict)
    × (commit ≡ verdict.commit)
    × (allowed ≡ (verdict.answer.kind.0 == 65535))
Finds sequence seen frame Unresolved = (commit : ℕ) × (kind : Kind)
    × (seen ≡ IsReady (NotResolved commit kind))
    × Spells sequence frame (NotResolved commit kind)
Finds sequence seen frame (Due commit kind metadata) = seen ≡ IsDue commit kind metadata
Finds sequence seen frame Memory = Unit {0}

-- the buffer holds the reply that an agent would decide, unless memory was wanting
abbrev pub TellsNotResolved : ℕ → ℕ → Kind → List ℕ → Found → Type 0
TellsNotResolved sequence commit kind frame Unresolved = Spells sequence frame (NotResolved commit kind)
TellsNotResolved sequence commit kind frame Memory = Unit {0}
TellsNotResolved sequence commit kind frame other = ⊥

abbrev pub Reads : ℕ → Bool → ℕ → Outcome → Read → Type 0
Reads sequence simple commit outcome read = Finds sequence (reading_of commit simple outcome) read.frame read.found

-- It was read at the last state that the seat has seen, whose commit is not below the seat's note; and the cause there is told.
abbrev pub ReadsAtLast : Check → SeatState → List ℕ → Found → (Cause → Type 0) → Type 0
ReadsAtLast check seat frame found Tells = (desk : DeskState)
    × IsLast seat.seen desk
    × Rises seat.seen
    × (seat.note ≤ desk.commit)
    × Finds check.sequence (reading desk check) frame found
    × Tells (cause_at desk check.question)
