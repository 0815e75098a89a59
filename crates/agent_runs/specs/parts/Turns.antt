-- One message is written of and answered, and many in turn.
use Rattle.std.specs.Prelude.{◌≡◌, ◌<◌, ℕ, Bool, true, false, List, [], ◌++◌, length, Result, Ok, Err}
use Rattle.desk_ports.specs.Faults.{next_count}
use Rattle.desk_ports.specs.Content.{Appended, AppendedPart}
use Rattle.cynara_keys.specs.declared.results.Kind.{Kind}
use Rattle.wire_fields.specs.declared.messages.Framed.{Framed}
use Rattle.wire_fields.specs.declared.messages.Message.{Message}
use Rattle.wire_fields.specs.declared.operations.Heard.TheVariants.{AgentReplies}
use Rattle.wire_reading.specs.Stream.{Hears, IsOpen}
use Rattle.client_core.specs.Agent.{Agent}
use Rattle.client_core.specs.declared.steps.Step.{Step}
use Rattle.client_core.specs.declared.steps.Step.TheVariants as step
use Rattle.run_endings.specs.Outside.{SinkSeen}
use Rattle.run_endings.specs.declared.endings.Ending.{Ending}
use Rattle.run_endings.specs.declared.endings.Ending.TheVariants.{Done, Memory, Sink, Net}
use Rattle.agent_runs.specs.LinkSeen.{LinkSeen, Carries}
use Rattle.agent_runs.specs.AgentTalk.{line_for, answer_for, lines, sent_after, IsRefused, IsQuestion, GoesOn}
use Rattle.agent_runs.specs.parts.Hearing.{IsBehind, IsListening}

-- ---- the line

-- nothing happened to the sink
abbrev pub IsUnwritten : SinkSeen → SinkSeen → Type 0
IsUnwritten sink sink_after = (sink_after.taken ≡ sink.taken) × (sink_after.faults ≡ sink.faults)

-- the sink took this text, and no call of it failed
abbrev pub IsWhole : List ℕ → SinkSeen → SinkSeen → Type 0
IsWhole text sink sink_after = Appended sink.taken text sink_after.taken × (sink_after.faults ≡ sink.faults)

-- the sink took a front of this text, and then a call of it failed
abbrev pub IsCutShort : List ℕ → SinkSeen → SinkSeen → Type 0
IsCutShort text sink sink_after =
    AppendedPart sink.taken text sink_after.taken × (sink_after.faults ≡ next_count sink.faults)

-- how writing a line ends that is not written whole
abbrev pub FailsToWrite : List ℕ → Result (Unit {0}) Ending → SinkSeen → SinkSeen → Type 0
FailsToWrite text (Err Memory) sink sink_after = IsUnwritten sink sink_after
FailsToWrite text (Err Sink) sink sink_after = IsCutShort text sink sink_after
FailsToWrite text result sink sink_after = ⊥

-- how writing a line ends
abbrev pub WritesLine : List ℕ → Result (Unit {0}) Ending → SinkSeen → SinkSeen → Type 0
WritesLine text (Ok value) sink sink_after = IsWhole text sink sink_after
WritesLine text result sink sink_after = FailsToWrite text result sink sink_after

-- ---- the frame

-- how sending a frame ends
abbrev pub SendsFrame : List ℕ → Result (Unit {0}) Ending → LinkSeen → LinkSeen → Type 0
SendsFrame frame (Ok value) link link_after = Carries frame [] false link link_after × (link_after.faults ≡ link.faults)
SendsFrame frame (Err Memory) link link_after = link_after ≡ link
SendsFrame frame (Err Net) link link_after =
    Carries [] [] false link link_after × (link_after.faults ≡ next_count link.faults)
SendsFrame frame (Err ending) link link_after = ⊥

-- the same by what the machine answered: it is sent, or no memory was found for it
abbrev pub Sends : Step → List ℕ → Result (Unit {0}) Ending → LinkSeen → LinkSeen → Type 0
Sends step.Send frame result link link_after = SendsFrame frame result link link_after
Sends other frame result link link_after = (result ≡ Err Memory) × (link_after ≡ link)

-- ---- one message

-- How answering ends: the answer to a question is sent, to another message there is none, and behind a kind that is
-- taken the run is done.
abbrev pub Answers : Bool → ℕ → Message → Result (Unit {0}) Ending → Agent → LinkSeen → LinkSeen → Type 0
Answers allowed sequence message (Ok value) new link link_after =
    (IsRefused message → ⊥) × IsListening new.stage
    × Carries (answer_for allowed sequence message) [] false link link_after
    × (link_after.faults ≡ link.faults)
Answers allowed sequence message (Err Done) new link link_after = IsRefused message × (link_after ≡ link)
Answers allowed sequence message (Err Net) new link link_after =
    IsQuestion message × Carries [] [] false link link_after × (link_after.faults ≡ next_count link.faults)
Answers allowed sequence message (Err Memory) new link link_after = IsQuestion message × (link_after ≡ link)
Answers allowed sequence message (Err ending) new link link_after = ⊥

-- How following a message ends: its line is written, and then it is answered.
pub data Follows (allowed : Bool) (sequence : ℕ) (message : Message) (result : Result (Unit {0}) Ending) (new : Agent)
    (link link_after : LinkSeen) (sink sink_after : SinkSeen) : Type 0 where
  written : IsWhole (line_for message) sink sink_after → Answers allowed sequence message result new link link_after
      → Follows allowed sequence message result new link link_after sink sink_after
  unwritten : FailsToWrite (line_for message) result sink sink_after → link_after ≡ link
      → Follows allowed sequence message result new link link_after sink sink_after

-- ---- many messages

-- whether a part of a message is there
abbrev pub IsBegun : Bool → List ℕ → Type 0
IsBegun true there = 0 < length there
IsBegun false there = there ≡ []

-- The registration was sent, these messages were heard, and each was written of and answered; and these bytes of the
-- next one are there.
pub record Talked (kind : Kind) (allowed : Bool) (messages : List Framed) (machine : Agent) (begun : Bool)
    (link link_after : LinkSeen) (sink sink_after : SinkSeen) : Type 0 where
  pub received : List ℕ
  pub there : List ℕ
  pub heard : Hears AgentReplies received messages []
  pub goes_on : GoesOn messages
  pub unfinished : IsOpen AgentReplies there
  pub stage_is : IsBehind messages there machine.stage
  pub is_begun : IsBegun begun there
  pub carried : Carries (sent_after kind allowed messages) (received ++ there) false link link_after
  pub faults : link_after.faults ≡ link.faults
  pub whole : IsWhole (lines messages) sink sink_after
