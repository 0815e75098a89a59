-- How a run ends where no further message is heard.
use Rattle.std.specs.Prelude.{Bool, true, false}
use Rattle.client_core.specs.declared.steps.Fault.{Fault}
use Rattle.client_core.specs.declared.steps.Fault.TheVariants as fault
use Rattle.run_endings.specs.declared.endings.Ending.{Ending}
use Rattle.run_endings.specs.declared.endings.Ending.TheVariants.{Done, Memory, Reply}

-- by the machine's fault at the bytes that came
abbrev pub ending_of : Fault → Ending
ending_of (fault.Memory error) = Memory
ending_of other = Reply

-- where the input ended: whether a part of a message was there
abbrev pub ending_behind : Bool → Ending
ending_behind true = Reply
ending_behind false = Done
