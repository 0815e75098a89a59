use Rattle.event_laws.proofs.Caches.{tells}
use Rattle.event_laws.proofs.clients.a_told_commit_is_an_event.Goals as goal

pub returns : goal.returns
returns c = tells
