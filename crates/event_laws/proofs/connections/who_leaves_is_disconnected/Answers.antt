use Rattle.event_laws.proofs.Registry.{leaves}
use Rattle.event_laws.proofs.connections.who_leaves_is_disconnected.Goals as goal

pub returns : goal.returns
returns g c = leaves g.H.HangEnd.used
