use Rattle.event_laws.proofs.Storing.{publishes}
use Rattle.event_laws.proofs.commits.a_publication_is_an_event.Goals as goal

pub returns : goal.returns
returns g c = publishes g.H.HangEnd.used
