-- What a connection of a client is answered where nothing around it fails.
use Rattle.std.specs.Prelude.{◌≡◌, ◌<◌, ℕ, false, List, [], ◌++◌, Option, Some, None, Ok, Err}
use Rattle.std.specs.List.{AllByRecursion}
use Rattle.cynara_keys.specs.Key.{Question}
use Rattle.desk_ports.specs.Faults.{last_count}
use Rattle.link_ports.specs.Traffic.{Traffic}
use Rattle.wire_reading.specs.Stream.{Hears}
use Rattle.wire_fields.specs.declared.messages.Framed.{Framed}
use Rattle.wire_fields.specs.declared.operations.Heard.TheVariants.{AtClient}
use Rattle.server_hall.specs.Call.{AskResult, AskMade}
use Rattle.client_door.specs.Answered.{Answered, IsRight, frames_of, replies_bytes}
use Rattle.client_door.specs.Serving.{ClientSide}

-- a count that has not risen, and could have
abbrev pub Stays : ℕ → ℕ → Type 0
Stays before after = (before < last_count) × (after ≡ before)

-- no call of the link failed and none found it down, and the hall counted no stop, no hang-up and no lost question
pub record IsQuiet (start now : ClientSide) : Type 0 where
  pub faults : Stays start.faults now.faults
  pub up : now.marks.is_down ≡ false
  pub stops : Stays start.tally.stops now.tally.stops
  pub hangs : Stays start.tally.hangs now.tally.hangs
  pub losses : Stays start.tally.losses now.tally.losses

-- an answer that `ask` gave is one to the question that it put
abbrev pub Gives : Question → AskResult → Type 0
Gives question (Ok answered) = answered.1.question ≡ question
Gives question (Err refusal) = Unit {0}

abbrev pub GivesItsQuestion : Option AskMade → Type 0
GivesItsQuestion None = Unit {0}
GivesItsQuestion (Some call) = Gives call.question call.result

-- the bytes that were received are these frames, and whole
pub record Receives (frames : List Framed) (start now : ClientSide) : Type 0 where
  pub before : Traffic
  pub after : Traffic
  pub bytes : List ℕ
  pub told : start.traffic ≡ Some before
  pub told_now : now.traffic ≡ Some after
  pub received : after.received ≡ before.received ++ bytes
  pub heard : Hears AtClient bytes frames []

-- each of these frames was answered, by one reply that was sent, in their order
pub record AnswersEach (frames : List Framed) (start now : ClientSide) : Type 0 where
  pub answered : List Answered
  pub right : AllByRecursion IsRight answered
  pub frames_are : frames_of answered ≡ frames
  pub before : Traffic
  pub after : Traffic
  pub told : start.traffic ≡ Some before
  pub told_now : now.traffic ≡ Some after
  pub sent : after.sent ≡ before.sent ++ replies_bytes answered
