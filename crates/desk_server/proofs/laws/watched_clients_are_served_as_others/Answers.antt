use Rattle.desk_server.proofs.Forgetting.{visits-untold}
use Rattle.desk_server.proofs.laws.watched_clients_are_served_as_others.Goals as goal

pub returns : goal.returns
returns g c = visits-untold g.L.Link.traffic g.L.Link.marks g.L.Link.faults
