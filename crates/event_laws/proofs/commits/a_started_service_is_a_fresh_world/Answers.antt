use Rattle.event_laws.proofs.Starting.{starts_fresh}
use Rattle.event_laws.proofs.commits.a_started_service_is_a_fresh_world.Goals as goal

pub returns : goal.returns
returns g c link_of roll side desk workers started = starts_fresh g.H.HangEnd.used link_of workers desk roll side started
