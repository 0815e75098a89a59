use Rattle.desk_keeper.specs.Keeper.{disk_of}
use Rattle.admin_door.proofs.Stopping.{stands-as-at, allows-current}
use Rattle.admin_door.proofs.settling.remount.Goals as goal

pub returns-in-Ok-clause-stops : goal.returns-in-Ok-clause-stops
returns-in-Ok-clause-stops g c before told =
    stands-as-at g.D.Disk.moment g.D.Disk.left_since (disk_of c.args.keeper.now) (disk_of c.remount.new.self) before
    (c.remount.ensures.moments before told)

pub returns-in-Ok-clause-kept : goal.returns-in-Ok-clause-kept
returns-in-Ok-clause-kept g c before told decided = (
  c.in-Ok.ensures.settled before told,
  allows-current before c.remount.new.self.desk (g.met.D.Disk.touched_only (disk_of c.args.keeper.now) before told)
      (c.in-Ok.ensures.desk before told),
)

pub returns-in-Err-StoreFault-clause-stops : goal.returns-in-Err-StoreFault-clause-stops
returns-in-Err-StoreFault-clause-stops g c before told =
    stands-as-at g.D.Disk.moment g.D.Disk.left_since (disk_of c.args.keeper.now) (disk_of c.remount.new.self) before
    (c.remount.ensures.moments before told)

pub returns-in-Err-Damaged-clause-stops : goal.returns-in-Err-Damaged-clause-stops
returns-in-Err-Damaged-clause-stops g c before told =
    stands-as-at g.D.Disk.moment g.D.Disk.left_since (disk_of c.args.keeper.now) (disk_of c.remount.new.self) before
    (c.remount.ensures.moments before told)

pub returns-in-Err-Memory-clause-stops : goal.returns-in-Err-Memory-clause-stops
returns-in-Err-Memory-clause-stops g c before told =
    stands-as-at g.D.Disk.moment g.D.Disk.left_since (disk_of c.args.keeper.now) (disk_of c.remount.new.self) before
    (c.remount.ensures.moments before told)
