-- The message that a step of a script is sent as.
use Rattle.std.specs.Prelude.{true, [], Option, Some, None}
use Rattle.line_script.specs.declared.steps.Step.{Step}
use Rattle.line_script.specs.declared.steps.Step.TheVariants as step
use Rattle.wire_messages.specs.Commands.{message_of}
use Rattle.wire_fields.specs.declared.messages.Message.{Message}
use Rattle.wire_fields.specs.declared.messages.Message.TheVariants.{Listing, AdminCheck, Stop}

-- A blank line, a comment, and a line within a block ask for nothing. A decision of Smack, levels, audits, shares and
-- the number of the last command are no steps of a script for a service. The root bucket has the empty name.
abbrev pub message_for : Step → Option Message
message_for (step.Command command) = Some (message_of command)
message_for (step.List bucket filter) = Some (Listing bucket filter)
message_for (step.Check question) = Some (AdminCheck [] true question)
message_for (step.From bucket deep question) = Some (AdminCheck bucket deep question)
message_for step.Stop = Some Stop
message_for other = None
