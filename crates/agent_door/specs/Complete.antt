-- What a connection of an agent is where nothing around it fails.
use Rattle.std.specs.Prelude.{◌≡◌, ◌<◌, ℕ, true, List, [], ◌∷◌, ◌++◌, map, Some}
use Rattle.std.specs.List.{AllByRecursion, flat_map}
use Rattle.desk_ports.specs.Faults.{last_count}
use Rattle.link_ports.specs.Traffic.{Traffic}
use Rattle.wire_reading.specs.Frame.{spelling}
use Rattle.wire_reading.specs.Stream.{Hears}
use Rattle.wire_fields.specs.declared.messages.Framed.{Framed}
use Rattle.wire_fields.specs.declared.operations.Heard.TheVariants.{AtAgent}
use Rattle.agent_door.specs.Frame.{register_frame, registered_frame, taken_frame, answer_frame}
use Rattle.agent_door.specs.Round.{Round, IsWhole, IsOpen, rounds_frames, rounds_told}
use Rattle.agent_door.specs.Serving.{AgentSide, IsRound, IsLateRound}
use Rattle.agent_door.specs.declared.messages.Answer.{Answer}
use Rattle.agent_door.specs.declared.messages.Registration.{Registration}

-- a count that has not risen, and could have
abbrev pub Stays : ℕ → ℕ → Type 0
Stays before after = (before < last_count) × (after ≡ before)

-- no call of the link failed, and the hall counted no stop
pub record IsQuiet (start now : AgentSide) : Type 0 where
  pub faults : Stays start.faults now.faults
  pub stops : Stays start.tally.stops now.tally.stops

-- the frames of an agent in their places: it registers, and then it answers
abbrev pub frames_of : Registration → List Answer → List Framed
frames_of registration answers = register_frame registration ∷ map answer_frame answers

-- the bytes that were received are these frames, and whole
pub record Receives (frames : List Framed) (start now : AgentSide) : Type 0 where
  pub before : Traffic
  pub after : Traffic
  pub bytes : List ℕ
  pub told : start.traffic ≡ Some before
  pub told_now : now.traffic ≡ Some after
  pub received : after.received ≡ before.received ++ bytes
  pub heard : Hears AtAgent bytes frames []

-- these frames were sent
pub record Sends (frames : List Framed) (start now : AgentSide) : Type 0 where
  pub before : Traffic
  pub after : Traffic
  pub told : start.traffic ≡ Some before
  pub told_now : now.traffic ≡ Some after
  pub sent : after.sent ≡ before.sent ++ flat_map spelling frames

-- Each answer was heeded in the round of a question, of which the last one is open still; or those were that came until
-- the agent had not answered its question in time, or until its link was found down; or it was told that its kind is
-- taken.
pub data HeedsEach (registration : Registration) (answers : List Answer) (start now : AgentSide) : Type 0 where
  asked : (rounds open_round : List Round) → AllByRecursion IsWhole rounds → AllByRecursion IsOpen open_round
      → IsRound open_round
      → rounds_frames (rounds ++ open_round) ≡ map answer_frame answers
      → Sends (registered_frame registration ∷ rounds_told registration.kind (rounds ++ open_round)) start now
      → HeedsEach registration answers start now
  too_late : (rounds open_round : List Round) (unheeded : List Framed) → AllByRecursion IsWhole rounds
      → AllByRecursion IsOpen open_round
      → IsLateRound open_round
      → rounds_frames (rounds ++ open_round) ++ unheeded ≡ map answer_frame answers
      → Sends (registered_frame registration ∷ rounds_told registration.kind (rounds ++ open_round)) start now
      → HeedsEach registration answers start now
  has_left : (rounds : List Round) (unheeded : List Framed) → AllByRecursion IsWhole rounds → now.marks.is_down ≡ true
      → rounds_frames rounds ++ unheeded ≡ map answer_frame answers
      → Sends (registered_frame registration ∷ rounds_told registration.kind rounds) start now
      → HeedsEach registration answers start now
  taken : Sends (taken_frame registration ∷ []) start now → HeedsEach registration answers start now

-- nothing was sent, and no call was made on the hall
pub record IsUntold (start now : AgentSide) : Type 0 where
  pub sends : Sends [] start now
  pub tally : now.tally ≡ start.tally
  pub calls : now.calls ≡ start.calls
