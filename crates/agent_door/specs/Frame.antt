-- The frames between an agent and the service.
use Rattle.std.specs.Prelude.{◌≡◌, ℕ, ◌%◌}
use Rattle.cynara_keys.specs.declared.results.Kind.{Kind}
use Rattle.agent_table.specs.declared.table.Asked.{Asked}
use Rattle.wire_reading.specs.Frame.{with_sequence}
use Rattle.wire_fields.specs.Operation.{number_of}
use Rattle.wire_fields.specs.Message.{operation}
use Rattle.wire_fields.specs.declared.messages.Framed.{Framed}
use Rattle.wire_fields.specs.declared.messages.Message.{Message}
use Rattle.wire_fields.specs.declared.messages.Message.TheVariants.{Register, AgentAnswer, Registered}
use Rattle.wire_fields.specs.declared.messages.Message.TheVariants.{KindTaken, AgentQuestion}
use Rattle.wire_fields.specs.declared.messages.Message.TheVariants.{UnknownNumber, AgentWithdrawn}
use Rattle.wire_fields.specs.declared.refusals.WireRefusal.TheVariants.{BadOperation}
use Rattle.door_frames.specs.declared.endings.Ended.{Ended}
use Rattle.door_frames.specs.declared.endings.Ended.TheVariants.{BadFrame}
use Rattle.agent_door.specs.declared.messages.Registration.{Registration}
use Rattle.agent_door.specs.declared.messages.Answer.{Answer}

-- ---- what an agent says

abbrev pub register_frame : Registration → Framed
register_frame registration = with_sequence registration.sequence (Register registration.kind)

abbrev pub answer_frame : Answer → Framed
answer_frame answer = with_sequence answer.sequence (AgentAnswer answer.number answer.allowed)

-- a frame whose operation, of this number, is not known where it stands
abbrev pub IsOutOfPlace : ℕ → Framed → Ended → Type 0
IsOutOfPlace number framed ended =
    (number_of (operation framed.message) ≡ number) × (ended ≡ BadFrame (BadOperation number))

-- a message that is no registration, and one that is no answer
abbrev pub IsNoRegistration : Message → Type 0
IsNoRegistration (Register kind) = ⊥
IsNoRegistration other = Unit {0}

abbrev pub IsNoAnswer : Message → Type 0
IsNoAnswer (AgentAnswer number allowed) = ⊥
IsNoAnswer other = Unit {0}

-- ---- what an agent is told

abbrev pub registered_frame : Registration → Framed
registered_frame registration = with_sequence registration.sequence (Registered registration.kind)

abbrev pub taken_frame : Registration → Framed
taken_frame registration = with_sequence registration.sequence (KindTaken registration.kind)

-- a question of the kind; its sequence number is the low 16 bits of its number
abbrev pub question_frame : Kind → Asked → Framed
question_frame kind asked = with_sequence (asked.number % 0x10000)
    (AgentQuestion asked.number asked.question (record { kind = kind.0; metadata = asked.metadata }))

abbrev pub unknown_frame : Answer → Framed
unknown_frame answer = with_sequence answer.sequence (UnknownNumber answer.number)

-- that the question of this number is not open any more; its sequence number is that of the question
abbrev pub withdrawn_frame : ℕ → Framed
withdrawn_frame number = with_sequence (number % 0x10000) (AgentWithdrawn number)
