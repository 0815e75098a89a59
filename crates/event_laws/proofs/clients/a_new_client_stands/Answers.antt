use Rattle.event_laws.proofs.Caches.{stands_new}
use Rattle.event_laws.proofs.clients.a_new_client_stands.Goals as goal

pub returns : goal.returns
returns c = stands_new
