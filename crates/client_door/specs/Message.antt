-- One message of a client, and what it is answered.
use Rattle.std.specs.Prelude.{◌≡◌, ◌⊎◌, ◌≤◌, ℕ, Bool, true, false, List, [], ◌∷◌, Option, Some, None}
use Rattle.cynara_keys.specs.Key.{Question}
use Rattle.cynara_keys.specs.declared.results.Kind.{Kind}
use Rattle.bucket_eval.specs.Root.{root_outcome}
use Rattle.bucket_eval.specs.Lent.{outcome_lent}
use Rattle.desk_state.specs.DeskState.{DeskState}
use Rattle.live_desk.specs.History.{IsLast, Rises}
use Rattle.live_desk.specs.Seat.{SeatState}
use Rattle.live_desk.specs.declared.verdicts.BorrowedVerdict.{BorrowedVerdict}
use Rattle.desk_world.specs.Links.{reading_of}
use Rattle.desk_world.specs.declared.links.Reading.{Reading}
use Rattle.desk_world.specs.declared.links.Reading.TheVariants.{Ready, Due as IsDue}
use Rattle.desk_world.specs.declared.replies.Reply.{Reply}
use Rattle.desk_world.specs.declared.replies.Reply.TheVariants.{Judged as IsJudged, NotResolved as IsNotResolved}
use Rattle.server_hall.specs.Call.{AskMade}
use Rattle.server_hall.specs.Tally.{Tally}
use Rattle.server_hall.specs.Told.{AppendsCalls}
use Rattle.server_hall.specs.declared.calls.HallCall.{HallCall}
use Rattle.server_hall.specs.declared.calls.HallCall.TheVariants.{Ask}
use Rattle.wire_fields.specs.declared.messages.Message.{Message}
use Rattle.wire_fields.specs.declared.messages.Message.TheVariants as message
use Rattle.door_frames.specs.declared.endings.Ended.{Ended}
use Rattle.door_frames.specs.declared.endings.Ended.TheVariants.{Memory}
use Rattle.client_door.specs.Check.{message_of}
use Rattle.client_door.specs.Asking.{AsksInVain}
use Rattle.client_door.specs.Answered.{Answers, call_list, after_asks}
use Rattle.client_door.specs.declared.answers.Seen.{Seen}
use Rattle.client_door.specs.declared.answers.Seen.TheVariants.{Judged, NotResolved, Due, Memory as NoMemory}

-- the question of a check, and whether no agent may be asked
abbrev pub check_in : Message → Option (Question × Bool)
check_in (message.Check question) = Some (question, false)
check_in (message.SimpleCheck question) = Some (question, true)
check_in other = None

-- what a check of this kind reads at a state
abbrev pub read_at : DeskState → Question → Bool → Reading
read_at desk question simple = reading_of desk.commit simple (root_outcome desk.database question)

-- the state is the last that the seat has seen, and no older than its note
abbrev pub IsSeenLast : DeskState → SeatState → Type 0
IsSeenLast desk seat = IsLast seat.seen desk × Rises seat.seen × (seat.note ≤ desk.commit)

-- ---- what was read, by value

abbrev pub Sees : Reading → Seen → Type 0
Sees reading (Judged verdict) = reading ≡ Ready (IsJudged verdict)
Sees reading (NotResolved commit kind) = reading ≡ Ready (IsNotResolved commit kind)
Sees reading (Due commit kind metadata) = reading ≡ IsDue commit kind metadata
Sees reading NoMemory = Unit {0}

abbrev pub SeesOf : Bool → BorrowedVerdict → Seen → Type 0
SeesOf simple verdict seen = Sees (reading_of verdict.commit simple (outcome_lent verdict.answer)) seen

abbrev pub SeesAtLast : Question → Bool → SeatState → Seen → Type 0
SeesAtLast question simple seat seen =
    (desk : DeskState) × IsSeenLast desk seat × Sees (read_at desk question simple) seen

-- ---- the answer

abbrev pub asks_in : Option AskMade → List HallCall
asks_in None = []
asks_in (Some call) = Ask call ∷ []

-- A question that read this is answered so, and for it these calls of `ask` were made: none, or one, which is then the last
-- one of the hall.
pub record AnswersQuestion (reading : Reading) (question : Question) (tally : Tally) (calls : Option (List HallCall))
    (tally_after : Tally) (calls_after : Option (List HallCall)) (answer : Message) : Type 0 where
  pub call : Option AskMade
  pub reply : Reply
  pub answers : Answers reading question call reply
  pub answer_is : answer ≡ message_of reply
  pub counted : tally_after ≡ after_asks (call_list call) tally
  pub told : AppendsCalls calls (asks_in call) calls_after

-- The message is answered at the last state that the seat has then seen.
pub record AnswersCheck (asked : Message) (seat : SeatState) (tally : Tally) (calls : Option (List HallCall))
    (tally_after : Tally) (calls_after : Option (List HallCall)) (answer : Message) : Type 0 where
  pub question : Question
  pub simple : Bool
  pub is_check : check_in asked ≡ Some (question, simple)
  pub desk : DeskState
  pub read : IsSeenLast desk seat
  pub answered : AnswersQuestion (read_at desk question simple) question tally calls tally_after calls_after answer

-- why a message has no answer, which read this: memory was wanting before an agent was asked, or asking one was in vain
abbrev pub IsRefused : Reading → Question → Tally → Option (List HallCall) → Tally → Option (List HallCall) → Ended → Type 0
IsRefused reading question tally calls tally_after calls_after ended =
    ((ended ≡ Memory) × (tally_after ≡ tally) × (calls_after ≡ calls))
    ⊎ ((commit : ℕ) × (kind : Kind) × (metadata : List ℕ) × (reading ≡ IsDue commit kind metadata)
    × AsksInVain kind question metadata tally calls tally_after calls_after ended)

-- The message has no answer: memory was wanting, the hall is stopped, or the question was lost or withdrawn.
pub record RefusesCheck (asked : Message) (seat : SeatState) (tally : Tally) (calls : Option (List HallCall))
    (tally_after : Tally) (calls_after : Option (List HallCall)) (ended : Ended) : Type 0 where
  pub question : Question
  pub simple : Bool
  pub is_check : check_in asked ≡ Some (question, simple)
  pub desk : DeskState
  pub read : IsSeenLast desk seat
  pub refused : IsRefused (read_at desk question simple) question tally calls tally_after calls_after ended
