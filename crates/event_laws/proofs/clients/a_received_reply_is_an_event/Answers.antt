use Rattle.event_laws.proofs.Caches.{receives}
use Rattle.event_laws.proofs.clients.a_received_reply_is_an_event.Goals as goal

pub returns : goal.returns
returns c old new key result world client ask link found transit stands asking =
    receives world client ask link found key asking old new result transit stands
