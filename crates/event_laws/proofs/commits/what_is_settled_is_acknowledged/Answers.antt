use Rattle.event_laws.proofs.Acknowledging.{settled_so}
use Rattle.event_laws.proofs.commits.what_is_settled_is_acknowledged.Goals as goal

pub returns : goal.returns
returns g c link_of roll old now world told stands = settled_so g.H.HangEnd.used link_of roll now world stands old told
