use Rattle.std.proofs.Common.{◌≡◌, take}
use Rattle.guard_files.specs.parts.Changes.{removals}
use Rattle.guard_files.proofs.Rows.{IsAfter}
use Rattle.guard_files.proofs.steps.remove_files.Given as goal

abbrev pub invariant-loop-name : goal.invariant-loop-name
invariant-loop-name g l =
    record {
      row : IsAfter g.D.Disk.state g.D.Disk.moment g.D.Disk.left_since (removals l.names) (removals (take l.name-index l.names)) l.fn.disk l.disk;
      count : g.D.Disk.faults l.disk ≡ g.D.Disk.faults l.fn.disk;
    }
