use Rattle.event_laws.proofs.Registry.{hangs}
use Rattle.event_laws.proofs.connections.a_disconnect_is_an_event.Goals as goal

pub returns : goal.returns
returns g c = hangs g.H.HangEnd.used
