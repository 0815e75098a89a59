use Rattle.event_laws.proofs.Stopping.{stops_all}
use Rattle.event_laws.proofs.connections.a_stop_disconnects_all.Goals as goal

pub returns : goal.returns
returns g c = stops_all g.H.HangEnd.used
