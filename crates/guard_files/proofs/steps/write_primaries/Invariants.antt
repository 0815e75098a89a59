use Rattle.std.proofs.Common.{◌≡◌, take}
use Rattle.guard_files.specs.OwnName.{primary_name}
use Rattle.guard_files.specs.parts.Changes.{writes}
use Rattle.guard_files.proofs.Rows.{IsAfter}
use Rattle.guard_files.proofs.steps.write_primaries.Given as goal

abbrev pub invariant-loop-file : goal.invariant-loop-file
invariant-loop-file g l =
    record {
      row : IsAfter g.D.Disk.state g.D.Disk.moment g.D.Disk.left_since (writes primary_name l.files) (writes primary_name (take l.file-index l.files)) l.fn.disk l.disk;
      count : g.D.Disk.faults l.disk ≡ g.D.Disk.faults l.fn.disk;
    }
