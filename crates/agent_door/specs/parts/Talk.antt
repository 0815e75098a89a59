-- How the serving of an agent stands between two calls.
use Rattle.std.specs.Prelude.{◌≡◌, ◌≤◌, ◌<◌, ℕ, suc, Bool, true, false, List, []}
use Rattle.std.specs.Prelude.{◌∷◌, ◌++◌, length, Option, Some, None, Result, Ok, Err}
use Rattle.std.specs.List.{AllByRecursion, flat_map}
use Rattle.cynara_keys.specs.declared.results.Kind.{Kind}
use Rattle.link_ports.specs.Traffic.{Traffic}
use Rattle.link_ports.specs.LinkMarks.{LinkMarks}
use Rattle.agent_table.specs.declared.refusals.AnswerRefusal.{AnswerRefusal}
use Rattle.agent_table.specs.declared.table.Asked.{Asked}
use Rattle.wire_reading.specs.Frame.{spelling}
use Rattle.wire_reading.specs.Stream.{Feeding}
use Rattle.wire_fields.specs.declared.messages.Framed.{Framed}
use Rattle.server_hall.specs.Tally.{Tally, after_call, after_calls}
use Rattle.server_hall.specs.Told.{AppendsCalls}
use Rattle.server_hall.specs.declared.calls.HallCall.{HallCall}
use Rattle.door_frames.specs.Carried.{Carried}
use Rattle.door_frames.specs.Hearing.{HasHeard, HearsMore, HandsOut}
use Rattle.door_frames.specs.Ending.{EndsReading, EndsSending}
use Rattle.door_frames.specs.declared.endings.Ended.{Ended}
use Rattle.door_frames.specs.declared.endings.Ended.TheVariants.{Closed}
use Rattle.agent_door.specs.Frame.{register_frame, registered_frame, taken_frame, answer_frame, IsOutOfPlace}
use Rattle.agent_door.specs.Round.{Turn, Round, IsWhole, IsInVain, answer_call, look_call, rounds_frames, rounds_told}
use Rattle.agent_door.specs.Serving.{AgentSide, Asks, joined_calls}
use Rattle.agent_door.specs.declared.messages.Answer.{Answer}
use Rattle.agent_door.specs.declared.messages.Registration.{Registration}

-- a question that is open, and how many turns there were since it was given
pub record Waiting : Type 0 where
  pub asked : Asked
  pub turns : ℕ

abbrev pub waiting_since : Asked → ℕ → Waiting
waiting_since asked turns = record { asked = asked; turns = turns }

-- the round of a question that is open, if one is
abbrev pub open_of : Option Waiting → List Turn → List Round
open_of None turns = []
open_of (Some waiting) turns = record { asked = waiting.asked; turns = turns } ∷ []

-- so many turns were in vain, if a question is open
abbrev pub AreInVain : Option Waiting → List Turn → Type 0
AreInVain None turns = turns ≡ []
AreInVain (Some waiting) turns = AllByRecursion (IsInVain waiting.asked) turns × (length turns ≡ waiting.turns)

-- Since the start the agent registered and joined, some rounds were made whole, and this question was asked behind
-- them, if one was.
pub record Stands (registration : Registration) (start now : AgentSide) (feeder : Feeding) (waiting : Option Waiting) :
    Type 0 where
  pub received : List ℕ
  pub rounds : List Round
  pub turns : List Turn
  pub whole : AllByRecursion IsWhole rounds
  pub others : AreInVain waiting turns
  pub heard : HasHeard received (register_frame registration ∷ rounds_frames (rounds ++ open_of waiting turns)) feeder
  pub carried : Carried start.traffic now.traffic received
      (flat_map spelling (registered_frame registration
      ∷ rounds_told registration.kind (rounds ++ open_of waiting turns)))
  pub tally : now.tally ≡ after_calls (joined_calls registration.kind (rounds ++ open_of waiting turns) []) start.tally
  pub calls : AppendsCalls start.calls (joined_calls registration.kind (rounds ++ open_of waiting turns) []) now.calls
  pub faults : start.faults ≤ now.faults
  pub ends : now.marks.ends ≡ start.marks.ends

-- from whatever start it stood so before, it stands so after
abbrev pub Goes : Registration → AgentSide → Feeding → Option Waiting → AgentSide → Feeding → Option Waiting → Type 0
Goes registration old feeder waiting new feeder_after waiting_after =
    (start : AgentSide) → Stands registration start old feeder waiting
    → Stands registration start new feeder_after waiting_after

-- from whatever start it stood so before, the serving has ended so
abbrev pub Ends : Registration → AgentSide → Feeding → Option Waiting → AgentSide → Ended → Type 0
Ends registration old feeder waiting new ended =
    (start : AgentSide) → Stands registration start old feeder waiting → Asks registration start new ended

-- ---- one turn

-- a question that was open for so many turns, after one that closed its round, or did not
abbrev pub after_turn : Bool → Asked → ℕ → Option Waiting
after_turn true asked turns = None
after_turn false asked turns = Some (waiting_since asked (suc turns))

-- what a turn does while the question of this number is open, where there were fewer turns than an agent is given
abbrev pub TakesTurn : Registration → ℕ → Result Bool Ended → AgentSide → Feeding → AgentSide → Feeding → Type 0
TakesTurn registration number (Ok is_closed) old feeder new fed =
    (asked : Asked) (turns : ℕ) → asked.number ≡ number → turns < 600
    → Goes registration old feeder (Some (waiting_since asked turns)) new fed (after_turn is_closed asked turns)
TakesTurn registration number (Err ended) old feeder new fed =
    (asked : Asked) (turns : ℕ) → asked.number ≡ number → turns < 600
    → Ends registration old feeder (Some (waiting_since asked turns)) new ended

-- what is heard in a tenth of a second at most: a frame, or none
abbrev pub HearsFrame : Option Framed → List ℕ → Feeding → Feeding → Type 0
HearsFrame (Some framed) bytes old new = HandsOut bytes framed old new
HearsFrame None bytes old new = HearsMore bytes old new

-- an answer, or none
abbrev pub HearsAnswer : Option Answer → List ℕ → Feeding → Feeding → Type 0
HearsAnswer (Some answer) bytes old new = HandsOut bytes (answer_frame answer) old new
HearsAnswer None bytes old new = HearsMore bytes old new

-- one call was made that asked whether the question of the number is open, and no other call
pub record LooksIn (number : ℕ) (is_open : Bool) (tally : Tally) (calls : Option (List HallCall)) (tally_after : Tally)
    (calls_after : Option (List HallCall)) : Type 0 where
  pub counted : tally_after ≡ after_call (look_call number is_open) tally
  pub told : AppendsCalls calls (look_call number is_open ∷ []) calls_after

-- ---- parts of a round

-- Why no answer comes: no frame comes, or one that is not known where it stands.
pub data EndsHearing (old new : Feeding) (before after : Option Traffic) (marks : LinkMarks) (faults faults_now : ℕ)
    (ended : Ended) :
    Type 0 where
  unheard : (bytes : List ℕ) (between : ℕ) → Carried before after bytes [] → HearsMore bytes old new → new.waiting ≡ []
      → new.heard ≡ old.heard → faults ≤ between
      → EndsReading ended new marks between faults_now → EndsHearing old new before after marks faults faults_now ended
  misplaced : (bytes : List ℕ) (framed : Framed) → Carried before after bytes [] → HandsOut bytes framed old new
      → new.heard ≡ old.heard
      → IsOutOfPlace 0x20 framed ended → faults ≤ faults_now
      → EndsHearing old new before after marks faults faults_now ended

-- one call of `answer` was made for the answer, and no other call
pub record HandsIn (kind : Kind) (answer : Answer) (outcome : Result (Unit {0}) AnswerRefusal) (tally : Tally)
    (calls : Option (List HallCall)) (tally_after : Tally) (calls_after : Option (List HallCall)) : Type 0 where
  pub counted : tally_after ≡ after_call (answer_call kind (record { answer = answer; result = outcome })) tally
  pub told : AppendsCalls calls (answer_call kind (record { answer = answer; result = outcome }) ∷ []) calls_after

-- an agent has joined, by the first of these bytes
pub record HasJoined (registration : Registration) (start now : AgentSide) (feeder : Feeding) : Type 0 where
  pub received : List ℕ
  pub heard : HasHeard received (register_frame registration ∷ []) feeder
  pub carried : Carried start.traffic now.traffic received []
  pub tally : now.tally ≡ after_calls (joined_calls registration.kind [] []) start.tally
  pub calls : AppendsCalls start.calls (joined_calls registration.kind [] []) now.calls
  pub faults : now.faults ≡ start.faults
  pub ends : now.marks.ends ≡ start.marks.ends

-- an agent was told that its kind is taken, or the frame was not sent
abbrev pub TellsTaken : Registration → Ended → Option Traffic → Option Traffic → ℕ → ℕ → Type 0
TellsTaken registration Closed before after faults faults_now =
    Carried before after [] (spelling (taken_frame registration)) × (faults_now ≡ faults)
TellsTaken registration ended before after faults faults_now =
    Carried before after [] [] × EndsSending ended faults faults_now
