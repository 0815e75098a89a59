use Rattle.event_laws.proofs.Storing.{decides}
use Rattle.event_laws.proofs.commits.a_remount_decides.Goals as goal

pub returns : goal.returns
returns g c = decides g.H.HangEnd.used
