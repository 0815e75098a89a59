use Rattle.desk_world.proofs.Enlarging.{each_grows}
use Rattle.desk_world.proofs.promise.each_grows.Goals as goal

pub returns : goal.returns
returns c = each_grows
