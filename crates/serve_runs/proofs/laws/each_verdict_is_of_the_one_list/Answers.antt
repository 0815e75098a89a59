use Rattle.serve_runs.proofs.OneList.{each_of_list}
use Rattle.serve_runs.proofs.laws.each_verdict_is_of_the_one_list.Goals as goal

pub returns : goal.returns
returns g c = each_of_list g.L.Link.traffic g.L.Link.marks g.L.Link.faults
