use Rattle.std.proofs.Common.{◌≡◌}
use Rattle.desk_server.specs.Agents.{VisitsAgents}
use Rattle.desk_server.specs.Visit.{GoesOnTold}
use Rattle.desk_server.specs.parts.Turn.{SoFar}
use Rattle.desk_server.proofs.workers.work_for_agents.Given as goal

abbrev pub invariant-loop : goal.invariant-loop
invariant-loop g l =
    (goal.iterator-loop g).can_next l.iterator'
    × ((goal.iterator-loop g).is_finite l.iterator'
    × (SoFar (VisitsAgents g.L.Link.traffic g.L.Link.marks g.L.Link.faults) (GoesOnTold l.fn.news l.news) g.L.Link.marks
    g.L.Link.faults tt tt
    (g.D.Door.given_back l.fn.door) (g.D.Door.given_back l.door) (g.D.Door.faults l.fn.door) (g.D.Door.faults l.door)
    × (g.D.Door.kind l.door ≡ g.D.Door.kind l.fn.door)))
