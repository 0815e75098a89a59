use Rattle.std.proofs.Common.{◌≡◌, take}
use Rattle.guard_files.specs.OwnName.{backup_name}
use Rattle.guard_files.specs.parts.Changes.{writes}
use Rattle.guard_files.proofs.Rows.{IsAfter}
use Rattle.guard_files.proofs.steps.write_backups.Given as goal

abbrev pub invariant-loop-i : goal.invariant-loop-i
invariant-loop-i g l =
    record {
      row : IsAfter g.D.Disk.state g.D.Disk.moment g.D.Disk.left_since (writes backup_name l.files) (writes backup_name (take l.i l.files)) l.fn.disk l.disk;
      count : g.D.Disk.faults l.disk ≡ g.D.Disk.faults l.fn.disk;
    }
