use Rattle.std.proofs.Common.{◌≡◌, ◌≤◌, []}
use Rattle.desk_keeper.specs.Keeper.{IsSameDisk}
use Rattle.live_desk.specs.History.{last_commit}
use Rattle.desk_server.specs.Administrators.{admin_state_of}
use Rattle.desk_server.specs.parts.Turn.{HoldsAdminState}
use Rattle.desk_server.proofs.admin_workers.serve_administrators.Given as goal

abbrev pub invariant-loop : goal.invariant-loop
invariant-loop g l =
    (goal.iterator-loop g).can_next l.iterator'
    × ((goal.iterator-loop g).is_finite l.iterator'
    × (HoldsAdminState g.D.Disk.faults g.D.Disk.state g.D.Disk.moment g.D.Disk.left_since
    g.L.Link.traffic g.L.Link.marks g.L.Link.faults l.fn.keeper
    (admin_state_of g.D.Disk.faults l.fn.keeper l.fn.publisher [])
    (g.E.Door.given_back l.fn.door) (g.E.Door.faults l.fn.door)
    l.fn.news l.keeper l.publisher (g.E.Door.given_back l.door) (g.E.Door.faults l.door) l.news l.hangs
    × ((last_commit 0 l.publisher ≤ l.keeper.desk.commit)
    × (IsSameDisk l.fn.keeper l.keeper
    × (g.E.Door.kind l.door ≡ g.E.Door.kind l.fn.door)))))
