use Rattle.std.proofs.Common.{refl}
use Rattle.ctl_door.specs.Replies.{no_room}
use Rattle.ctl_door.proofs.asking.verdict_of.Goals as goal

-- no memory was found for the message
pub returns-in-Err : goal.returns-in-Err
returns-in-Err g c = no_room c.in-Err.error refl refl
