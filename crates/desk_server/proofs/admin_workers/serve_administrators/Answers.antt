use Rattle.std.proofs.Common.{◌∙◌, [], refl}
use Rattle.desk_keeper.specs.Keeper.{disk_of}
use Rattle.admin_door.proofs.Running.{runs-none}
use Rattle.desk_server.specs.Visit.{GoesOnTold}
use Rattle.desk_server.specs.Administrators.{VisitsAdministrators, admin_state_of}
use Rattle.desk_server.proofs.Visits.{begins}
use Rattle.desk_server.proofs.admin_workers.serve_administrators.Goals as goal

pub loop-init : goal.loop-init
loop-init g c = (
  tt,
  (
    tt,
    (
      (
        [],
        begins (VisitsAdministrators g.L.Link.traffic g.L.Link.marks g.L.Link.faults) g.L.Link.marks g.L.Link.faults
            (GoesOnTold c.args.news.now c.args.news.now)
            (admin_state_of g.D.Disk.faults c.args.keeper.now c.args.publisher.now [])
            (g.E.Door.given_back c.args.door.now) (g.E.Door.faults c.args.door.now) (tt, refl),
        runs-none g.D.Disk.state g.D.Disk.moment g.D.Disk.left_since c.args.keeper.now
            (g.met.D.Disk.only_now (disk_of c.args.keeper.now)),
        tt,
      ),
      (c.requires.behind, (refl, refl)),
    ),
  ),
)

pub loop-preserved : goal.loop-preserved
loop-preserved g c = (
  tt,
  (
    tt,
    (
      c.in_default.ensures.worked c.args.keeper.now
          (admin_state_of g.D.Disk.faults c.args.keeper.now c.args.publisher.now [])
          (g.E.Door.given_back c.args.door.now) (g.E.Door.faults c.args.door.now) c.args.news.now
          c.loop.invariant.1.1.0,
      (
        c.in_default.ensures.behind,
        (
          c.in_default.ensures.same_disk ∙ c.loop.invariant.1.1.1.1.0,
          c.in_default.ensures.kind ∙ c.loop.invariant.1.1.1.1.1,
        ),
      ),
    ),
  ),
)

pub returns-in-Err-clause-worked : goal.returns-in-Err-clause-worked
returns-in-Err-clause-worked g c =
    c.in-Err.ensures.worked c.args.keeper.now (admin_state_of g.D.Disk.faults c.args.keeper.now c.args.publisher.now [])
    (g.E.Door.given_back c.args.door.now) (g.E.Door.faults c.args.door.now) c.args.news.now c.loop.invariant.1.1.0
