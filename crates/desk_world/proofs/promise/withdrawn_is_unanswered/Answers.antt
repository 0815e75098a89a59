use Rattle.desk_world.proofs.Withdrawing.{unanswered}
use Rattle.desk_world.proofs.promise.withdrawn_is_unanswered.Goals as goal

pub returns : goal.returns
returns c = unanswered
