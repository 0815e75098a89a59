use Rattle.serve_runs.proofs.OneList.{each_entered}
use Rattle.serve_runs.proofs.laws.each_connection_entered_in_the_one_log.Goals as goal

pub returns : goal.returns
returns g c = each_entered g.L.Link.traffic g.L.Link.marks g.L.Link.faults
