use Rattle.event_laws.proofs.Storing.{stores}
use Rattle.event_laws.proofs.commits.a_commit_is_stored.Goals as goal

pub returns : goal.returns
returns g c = stores g.H.HangEnd.used
