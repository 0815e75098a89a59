use Rattle.desk_world.proofs.Telling.{never_older}
use Rattle.desk_world.proofs.promise.never_older.Goals as goal

pub returns : goal.returns
returns c = never_older
