-- The machine is given a message.
use Rattle.std.specs.Prelude.{ℕ, Result, Ok, Err}
use Rattle.client_core.specs.declared.steps.Step.{Step}
use Rattle.client_core.specs.declared.steps.Step.TheVariants as step
use Rattle.client_core.specs.declared.steps.Fault.TheVariants as fault
use Rattle.admin_client.specs.declared.beginning.Begun.{Begun}
use Rattle.admin_client.specs.declared.beginning.Begun.TheVariants.{Send, Dial, NoRoom, TooLong}

-- what the machine answered
abbrev pub answer_of : Begun → Result Step ℕ
answer_of Send = Ok step.Send
answer_of Dial = Ok step.Dial
answer_of (NoRoom error) = Ok (step.Over (fault.Memory error))
answer_of (TooLong n) = Err n
