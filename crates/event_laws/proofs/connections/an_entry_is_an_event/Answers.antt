use Rattle.event_laws.proofs.Registry.{enters}
use Rattle.event_laws.proofs.connections.an_entry_is_an_event.Goals as goal

pub returns : goal.returns
returns g c = enters g.H.HangEnd.used
