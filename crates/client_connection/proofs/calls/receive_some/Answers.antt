use Rattle.std.proofs.Common.{◌≡◌, length}
use Rattle.client_connection.proofs.Troubles.{trouble-ended}
use Rattle.client_connection.proofs.Receiving.{none_given}
use Rattle.client_connection.proofs.calls.receive_some.Goals as goal

pub returns-in-Ok-clause-trouble : goal.returns-in-Ok-clause-trouble
returns-in-Ok-clause-trouble g c none =
    trouble-ended (g.L.Link.marks c.args.link.now) (g.L.Link.marks c.receive.new.self) (g.L.Link.faults c.receive.new.self)
    (length c.args.room.now) c.in-Ok.count c.requires none c.in-Ok.ensures.marks

pub returns-in-Err-clause-received : goal.returns-in-Err-clause-received
returns-in-Err-clause-received g c =
    none_given c.receive.new.into (g.L.Link.traffic c.args.link.now) (g.L.Link.traffic c.receive.new.self) c.in-Err.ensures.unreceived
