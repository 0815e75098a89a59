use Rattle.event_laws.proofs.Storing.{fails}
use Rattle.event_laws.proofs.commits.a_failed_commit_is_undecided.Goals as goal

pub returns : goal.returns
returns g c = fails g.H.HangEnd.used
