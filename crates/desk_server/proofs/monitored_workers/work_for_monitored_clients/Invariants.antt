use Rattle.std.proofs.Common.{◌≡◌}
use Rattle.check_monitor.specs.Monitor.{IsSame}
use Rattle.desk_server.specs.Monitored.{post_of, VisitsWatched}
use Rattle.desk_server.specs.Visit.{GoesOnTold}
use Rattle.desk_server.specs.parts.Turn.{SoFar}
use Rattle.desk_server.proofs.monitored_workers.work_for_monitored_clients.Given as goal

abbrev pub invariant-loop : goal.invariant-loop
invariant-loop g l =
    (goal.iterator-loop g).can_next l.iterator'
    × ((goal.iterator-loop g).is_finite l.iterator'
    × (SoFar (VisitsWatched g.L.Link.traffic g.L.Link.marks g.L.Link.faults) (GoesOnTold l.fn.news l.news)
    g.L.Link.marks g.L.Link.faults
    (post_of l.fn.seat l.fn.recorder) (post_of l.seat l.recorder)
    (g.D.Door.given_back l.fn.door) (g.D.Door.given_back l.door) (g.D.Door.faults l.fn.door) (g.D.Door.faults l.door)
    × ((g.D.Door.kind l.door ≡ g.D.Door.kind l.fn.door)
    × IsSame l.fn.recorder l.recorder)))
