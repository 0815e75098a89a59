use Rattle.std.proofs.Common.{refl}
use Rattle.desk_server.specs.Clients.{VisitsClients}
use Rattle.desk_server.specs.Visit.{GoesOnTold}
use Rattle.desk_server.proofs.Visits.{begins}
use Rattle.desk_server.proofs.workers.work_for_clients.Goals as goal

pub loop-init : goal.loop-init
loop-init g c = (
  tt,
  (
    tt,
    (
      begins (VisitsClients g.L.Link.traffic g.L.Link.marks g.L.Link.faults) g.L.Link.marks g.L.Link.faults
          (GoesOnTold c.args.news.now c.args.news.now) c.args.seat.now
          (g.D.Door.given_back c.args.door.now) (g.D.Door.faults c.args.door.now) (tt, refl),
      refl,
    ),
  ),
)

pub returns-in-Err-clause-worked : goal.returns-in-Err-clause-worked
returns-in-Err-clause-worked g c =
    c.in-Err.ensures.worked c.args.news.now c.args.seat.now (g.D.Door.given_back c.args.door.now)
    (g.D.Door.faults c.args.door.now)
    c.loop.invariant.1.1.0
