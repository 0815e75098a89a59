-- What the exports answer, as numbers. A C header has the same.
use Rattle.std.specs.Prelude.{ℕ}
use Rattle.wire_fields.specs.declared.messages.Message.{Message}
use Rattle.wire_fields.specs.declared.messages.Message.TheVariants as message
use Rattle.client_core.specs.declared.steps.Step.{Step}
use Rattle.client_core.specs.declared.steps.Step.TheVariants as step
use Rattle.client_core.specs.declared.steps.Fault.{Fault}
use Rattle.client_core.specs.declared.steps.Fault.TheVariants as fault

-- the service said this, and the connection stands, but where an agent's kind is taken
abbrev pub message_code : Message → ℕ
message_code (message.NotResolved commit kind) = 16
message_code (message.NoAgent commit kind) = 17
message_code (message.AgentGone commit number) = 18
message_code (message.AgentFull commit kind most) = 19
message_code (message.Registered kind) = 7
message_code (message.KindTaken kind) = 38
message_code (message.AgentQuestion number question result) = 8
message_code (message.UnknownNumber number) = 9
message_code (message.AgentWithdrawn number) = 10
message_code other = 5

-- there is no answer, and the connection is to be closed
abbrev pub fault_code : Fault → ℕ
fault_code fault.Unavailable = 32
fault_code (fault.Older told got) = 33
fault_code (fault.Frame refusal) = 34
fault_code (fault.Sequence sent got) = 35
fault_code (fault.Operation operation) = 36
fault_code (fault.Memory error) = 37

abbrev pub code_of : Step → ℕ
code_of step.Idle = 0
code_of step.Dial = 1
code_of step.Look = 2
code_of step.Send = 3
code_of step.Wait = 4
code_of step.Kept = 5
code_of (step.Reply message) = message_code message
code_of (step.Row message) = 6
code_of (step.Over fault) = fault_code fault
code_of (step.Unfit refusal) = 73
code_of step.TooLong = 74
code_of step.WrongNumber = 75
code_of step.NotNow = 66
code_of step.BadCount = 67
