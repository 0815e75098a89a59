use Rattle.std.proofs.Common.{refl}
use Rattle.cynara_client.specs.parts.Putting.{Puts}
use Rattle.cynara_client.proofs.asking.put.Goals as goal

pub returns-in-Err : goal.returns-in-Err
returns-in-Err c = Puts.lacks c.in-Err.error refl c.leave.ensures
