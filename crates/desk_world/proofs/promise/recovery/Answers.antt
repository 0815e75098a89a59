use Rattle.desk_world.proofs.Recovering.{recovery}
use Rattle.desk_world.proofs.promise.recovery.Goals as goal

pub returns : goal.returns
returns c = recovery
