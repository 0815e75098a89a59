use Rattle.event_laws.proofs.Caches.{notices}
use Rattle.event_laws.proofs.clients.a_closed_connection_is_noticed.Goals as goal

pub returns : goal.returns
returns g c old new world client link found stands holds there down finds =
    notices old.cache new.cache world client link found stands holds there down finds.bare.cache
