use Rattle.desk_world.proofs.Headlines.{freshness}
use Rattle.desk_world.proofs.promise.freshness.Goals as goal

pub returns : goal.returns
returns c = freshness
