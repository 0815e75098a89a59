-- What a connection of a client is answered, and how it ends.
use Rattle.std.specs.Prelude.{◌≡◌, ◌≤◌, ℕ, true, List, [], ◌∷◌, ◌++◌, map, length, Option, None, Ok, Err, IsTrue}
use Rattle.std.specs.List.{AllByRecursion}
use Rattle.desk_ports.specs.Faults.{next_count}
use Rattle.link_ports.specs.Traffic.{Traffic}
use Rattle.link_ports.specs.LinkMarks.{LinkMarks, with_end_taken}
use Rattle.desk_state.specs.DeskState.{DeskState}
use Rattle.desk_world.specs.Links.{may_read}
use Rattle.desk_world.specs.declared.links.Reading.TheVariants.{Due}
use Rattle.live_desk.specs.History.{GoesOn, Rises, last_commit}
use Rattle.live_desk.specs.Seat.{SeatState, EntersAt}
use Rattle.live_roll.specs.declared.answers.Left.{Left}
use Rattle.live_roll.specs.declared.answers.Left.TheVariants.{Still, Hung as LeftHung, Stopped as LeftStopped}
use Rattle.live_roll.specs.declared.answers.Stopped.{Stopped as IsStopped}
use Rattle.wire_reading.specs.Stream.{Hears}
use Rattle.wire_fields.specs.declared.messages.Framed.{Framed}
use Rattle.wire_fields.specs.declared.operations.Heard.TheVariants.{AtClient}
use Rattle.server_hall.specs.Call.{AskMade}
use Rattle.server_hall.specs.Tally.{Tally, after_enter, after_leave, IsRaised}
use Rattle.server_hall.specs.Told.{AppendsCalls}
use Rattle.server_hall.specs.Found.{MayCount}
use Rattle.server_hall.specs.declared.calls.HallCall.{HallCall}
use Rattle.server_hall.specs.declared.calls.HallCall.TheVariants.{Ask}
use Rattle.door_frames.specs.Carried.{Carried}
use Rattle.door_frames.specs.Ending.{EndsBytes, IsAtEnd, faults_after}
use Rattle.door_frames.specs.declared.endings.Ended.{Ended}
use Rattle.door_frames.specs.declared.endings.Ended.TheVariants.{Closed, Cut, Hung, LinkFault, BadFrame, Stopped, Memory, Strayed}
use Rattle.client_door.specs.Check.{framed_of}
use Rattle.client_door.specs.Reading.{reading}
use Rattle.client_door.specs.declared.checks.Check.{Check}
use Rattle.client_door.specs.Asking.{FindsStop, Strays, IsWithdrawn}
use Rattle.client_door.specs.Answered.{Answered, IsRight, frames_of, replies_bytes, calls_for, after_asks, StandsIn, AreReadIn, read_up_to}
use Rattle.client_door.specs.Recording.{Recording, judged_in, HasRecorded}

-- what a connection of a client is served with: the seat, the hall's tally and calls, the link, and where its checks are
-- recorded, what the recorder tells
pub record ClientSide : Type 0 where
  pub seat : SeatState
  pub tally : Tally
  pub calls : Option (List HallCall)
  pub traffic : Option Traffic
  pub marks : LinkMarks
  pub faults : ℕ
  pub recording : Option Recording

abbrev pub recorded_side : SeatState → Tally → Option (List HallCall) → Option Traffic → LinkMarks → ℕ → Option Recording → ClientSide
recorded_side seat tally calls traffic marks faults recording = record {
  seat = seat;
  tally = tally;
  calls = calls;
  traffic = traffic;
  marks = marks;
  faults = faults;
  recording = recording;
}

-- nothing is recorded
abbrev pub client_side : SeatState → Tally → Option (List HallCall) → Option Traffic → LinkMarks → ℕ → ClientSide
client_side seat tally calls traffic marks faults = recorded_side seat tally calls traffic marks faults None

-- with the link as it stands then
abbrev pub with_link : ClientSide → Option Traffic → LinkMarks → ℕ → ClientSide
with_link side traffic marks faults = record side { traffic = traffic; marks = marks; faults = faults }

-- ---- a connection that has entered

-- Why the answering ended: as the connection then ends; or the question of this number was withdrawn, since the link was found
-- down while an agent was waited for.
pub data Cause : Type 0 where
  Came : Ended → Cause
  Withdrew : ℕ → Cause

-- how the connection ends for it
abbrev pub ended_for : Cause → Ended
ended_for (Came ended) = ended
ended_for (Withdrew number) = Closed

-- The bytes that were received, of which these frames were answered: where the input ended or was wrong each whole frame before was;
-- else some may not be, so of the question that was withdrawn.
abbrev pub EndsAnswered : Cause → List ℕ → List Framed → Type 0
EndsAnswered (Came ended) received answered = EndsBytes AtClient received answered ended
EndsAnswered (Withdrew number) received answered =
    (more : List Framed) × (rest : List ℕ) × Hears AtClient received (answered ++ more) rest

-- Which calls of `ask` were made for checks whose replies were not sent, where the answering ended so: none where the input
-- ended or was wrong; the one that found the hall stopped, lost its question, or withdrew it; and else one at most.
abbrev pub EndsAsking : Cause → List AskMade → Type 0
EndsAsking (Came Closed) last = last ≡ []
EndsAsking (Came (Cut count)) last = last ≡ []
EndsAsking (Came (BadFrame refusal)) last = last ≡ []
EndsAsking (Came Stopped) last = (call : AskMade) × (last ≡ call ∷ []) × FindsStop call.result
EndsAsking (Came (Strayed number found)) last =
    (call : AskMade) × (last ≡ call ∷ []) × Strays call.question number found call.result
EndsAsking (Came LinkFault) last = length last ≤ 1
EndsAsking (Came Memory) last = length last ≤ 1
EndsAsking (Came (Hung entered now)) last = ⊥
EndsAsking (Withdrew number) last = (call : AskMade) × (last ≡ call ∷ []) × IsWithdrawn number call.result

-- what the link tells where the answering ended so: that the input has ended, or that it was found down
abbrev pub IsFoundSo : Cause → LinkMarks → Type 0
IsFoundSo (Came ended) marks = IsAtEnd ended marks
IsFoundSo (Withdrew number) marks = marks.is_down ≡ true

-- its count of failures, which may have risen by one where it was found down
abbrev pub CountsFaults : Cause → ℕ → ℕ → Type 0
CountsFaults (Came ended) before after = after ≡ faults_after ended before
CountsFaults (Withdrew number) before after = MayCount before after

-- A call that was made for a check whose reply was not sent: one that came behind those that were answered, read as due at a
-- state that the seat has seen, no older than its note and than those at which the answered ones were read.
pub record IsCallFor (seat : SeatState) (received : List ℕ) (answered : List Answered) (call : AskMade) : Type 0 where
  pub check : Check
  pub desk : DeskState
  pub commit : ℕ
  pub read : reading desk check ≡ Due commit call.kind call.metadata
  pub question : call.question ≡ check.question
  pub stands : StandsIn desk seat.seen
  pub fresh : IsTrue (may_read (read_up_to seat.note answered) (last_commit 0 seat.seen) desk.commit)
  pub heard : (between behind : List Framed) × (rest : List ℕ)
      × Hears AtClient received (frames_of answered ++ (between ++ framed_of check ∷ behind)) rest

-- The checks that were answered in turn, each with one reply that was sent; the bytes that were received in this time; and
-- the calls of `ask` for checks whose replies were not sent.
pub record Talks (start now : ClientSide) (ended : Ended) : Type 0 where
  pub received : List ℕ
  pub answered : List Answered
  pub last : List AskMade
  -- why it ended
  pub cause : Cause
  pub ended_is : ended ≡ ended_for cause
  -- the replies are right, and are those to the first frames received
  pub right : AllByRecursion IsRight answered
  pub bytes : EndsAnswered cause received (frames_of answered)
  pub carried : Carried start.traffic now.traffic received (replies_bytes answered)
  -- each was read at a state that the seat has seen, no older than its note
  pub read : AreReadIn now.seat.seen now.seat.note answered
  pub seen : GoesOn start.seat.seen now.seat.seen
  -- the commits of the states that the seat has seen rise, where they did at the start
  pub rising : Rises start.seat.seen → Rises now.seat.seen
  pub same_seat : now.seat ≡ record start.seat { seen = now.seat.seen }
  -- the calls that were made on the hall
  pub tally : now.tally ≡ after_asks (calls_for answered ++ last) start.tally
  pub calls : AppendsCalls start.calls (map Ask (calls_for answered ++ last)) now.calls
  pub asking : EndsAsking cause last
  pub for_checks : AllByRecursion (IsCallFor now.seat received answered) last
  -- the link
  pub faults : CountsFaults cause start.faults now.faults
  pub at_end : IsFoundSo cause now.marks
  pub ends : now.marks.ends ≡ start.marks.ends
  -- the decided checks of those that were answered were recorded, each once
  pub recorded : HasRecorded start.recording (judged_in answered) now.recording

-- how a connection ends that leaves so, after the answering ended so
abbrev pub ended_by_leaving : ℕ → Left → Ended → Ended
ended_by_leaving entered Still ended = ended
ended_by_leaving entered (LeftHung now) ended = Hung entered now
ended_by_leaving entered (LeftStopped now) ended = Stopped

-- ---- a whole connection

-- the hang end was not to be had
abbrev pub IsUnbegun : Ended → ℕ → ℕ → Type 0
IsUnbegun LinkFault before after = after ≡ next_count before
IsUnbegun Memory before after = after ≡ before
IsUnbegun other before after = ⊥

-- nothing was heard, answered, called or recorded
pub record IsIdle (start now : ClientSide) : Type 0 where
  pub seat : now.seat ≡ start.seat
  pub calls : now.calls ≡ start.calls
  pub recording : now.recording ≡ start.recording
  pub carried : Carried start.traffic now.traffic [] []

-- The connection entered at this commit, was served, and left. What its seat then knew of the roll's events ends with this entry, and
-- names no disconnect for a later commit.
pub record Served (result : Ended) (start now : ClientSide) : Type 0 where
  pub entered : ℕ
  pub inner : Ended
  pub left : Left
  -- what stood once it had entered, and before it left
  pub first : ClientSide
  pub last : ClientSide
  pub entry : first.tally ≡ after_enter (Ok entered) start.tally
  pub told : EntersAt entered start.seat first.seat
  pub told_calls : first.calls ≡ start.calls
  pub opened : Carried start.traffic first.traffic [] []
  pub marks : first.marks ≡ with_end_taken start.marks
  pub faults : first.faults ≡ start.faults
  pub recording : first.recording ≡ start.recording
  pub talks : Talks first last inner
  pub leaving : now ≡ record last { tally = after_leave (record { seat = last.seat.number; entered = entered; left = left }) last.tally }
  pub raised : IsRaised entered left
  pub result_is : result ≡ ended_by_leaving entered left inner

-- A connection of a client: no hang end of its link was to be had; or the hall was stopped, and it didn't enter; or it
-- entered, was served, and left.
pub data Serves (result : Ended) (start now : ClientSide) : Type 0 where
  unbegun : IsUnbegun result start.faults now.faults → now.tally ≡ start.tally → now.marks ≡ start.marks
      → IsIdle start now → Serves result start now
  refused : (refusal : IsStopped) → result ≡ Stopped → now.tally ≡ after_enter (Err refusal) start.tally
      → now.marks ≡ with_end_taken start.marks → now.faults ≡ start.faults → IsIdle start now → Serves result start now
  served : Served result start now → Serves result start now
