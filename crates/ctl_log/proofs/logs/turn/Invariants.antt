use Rattle.std.proofs.Common.{length}
use Rattle.ctl_log.proofs.logs.turn.Given as goal

abbrev pub decreases-loop-line : goal.decreases-loop-line
decreases-loop-line l = length l.rest
