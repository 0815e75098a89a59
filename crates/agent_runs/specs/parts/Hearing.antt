-- Bytes are received, and the machine hears them.
use Rattle.std.specs.Prelude.{◌≡◌, ◌<◌, ◌≤◌, ℕ, true, false, List, [], ◌∷◌, length, Option, Some}
use Rattle.desk_ports.specs.Faults.{next_count}
use Rattle.wire_fields.specs.declared.messages.Framed.{Framed}
use Rattle.wire_fields.specs.declared.messages.Message.{Message}
use Rattle.wire_fields.specs.declared.messages.Message.TheVariants.{AgentQuestion, KindTaken}
use Rattle.wire_fields.specs.declared.operations.Heard.TheVariants.{AgentReplies}
use Rattle.wire_reading.specs.Stream.{IsOpen}
use Rattle.client_core.specs.Listening.{Listening}
use Rattle.client_core.specs.Agent.{Agent, Comes, wanted_at, listening}
use Rattle.client_core.specs.declared.stages.Open.{Open}
use Rattle.client_core.specs.declared.stages.AgentStage.{AgentStage}
use Rattle.client_core.specs.declared.stages.AgentStage.TheVariants as stage
use Rattle.client_core.specs.declared.steps.Step.{Step}
use Rattle.client_core.specs.declared.steps.Step.TheVariants as step
use Rattle.agent_runs.specs.LinkSeen.{LinkSeen, Carries}
use Rattle.agent_runs.specs.AgentTalk.{GoesOn}
use Rattle.agent_runs.specs.declared.hearing.Piece.{Piece}
use Rattle.agent_runs.specs.declared.hearing.Piece.TheVariants as piece

-- ---- the machine

-- these bytes of a message are there
abbrev pub with_bytes : List ℕ → Listening
with_bytes there = record { side = AgentReplies; bytes = there }

-- how far the machine is behind these messages, with these bytes of the next one
abbrev pub IsBehind : List Framed → List ℕ → AgentStage → Type 0
IsBehind [] there s = s ≡ stage.Registering (with_bytes there)
IsBehind (first ∷ turns) there s = (asked : Option Open) × (s ≡ stage.Listening asked (with_bytes there))

-- it hears a message
pub record IsReady (s : AgentStage) : Type 0 where
  pub messages : List Framed
  pub there : List ℕ
  pub goes_on : GoesOn messages
  pub unfinished : IsOpen AgentReplies there
  pub stage_is : IsBehind messages there s

-- it is registered, and between two messages
abbrev pub IsListening : AgentStage → Type 0
IsListening s = (asked : Option Open) × (s ≡ listening asked)

-- What the machine is once it gave a message with this sequence number. A question is to be answered.
abbrev pub IsPut : Message → ℕ → AgentStage → Type 0
IsPut (AgentQuestion number question result) sequence s =
    s ≡ listening (Some (record { number = number; sequence = sequence }))
IsPut (KindTaken kind) sequence s = Unit {0}
IsPut message sequence s = IsListening s

-- ---- pieces

-- some bytes were received, and so the machine answered them
pub record Came (answer : Step) (old new : Agent) (link link_after : LinkSeen) : Type 0 where
  pub bytes : List ℕ
  pub some : 0 < length bytes
  pub few : length bytes ≤ wanted_at old.stage
  pub comes : Comes bytes answer old new
  pub carried : Carries [] bytes false link link_after
  pub faults : link_after.faults ≡ link.faults

-- what taking a piece made of the machine and of the link
abbrev pub Takes : Piece → Agent → Agent → LinkSeen → LinkSeen → Type 0
Takes piece.More old new link link_after = Came step.Wait old new link link_after
Takes (piece.Whole message) old new link link_after = Came (step.Reply message) old new link link_after
Takes (piece.Over fault) old new link link_after = Came (step.Over fault) old new link link_after
Takes piece.Ended old new link link_after = Carries [] [] true link link_after × (link_after.faults ≡ link.faults)
Takes piece.Lost old new link link_after =
    Carries [] [] false link link_after × (link_after.faults ≡ next_count link.faults)
