use Rattle.std.proofs.Common.{◌≡◌, Some, Ok, take}
use Rattle.desk_ports.specs.FileMap.{names_of}
use Rattle.desk_ports.specs.Disk.{WhereTold, MayLeave}
use Rattle.desk_ports.specs.Moments.{AddsOnly}
use Rattle.guard_files.specs.Recovery.{files_at}
use Rattle.guard_files.specs.Mounted.{placed}
use Rattle.guard_files.proofs.set_reading.read_files.Given as goal

abbrev pub invariant-loop-name : goal.invariant-loop-name
invariant-loop-name g l =
    record {
      named : names_of l.files.items ≡ take l.name-index l.list;
      read : WhereTold (g.D.Disk.state l.fn.disk) (λ before. files_at (placed l.guarded) before.current (take l.name-index l.list) ≡ Ok l.files.items);
      kept : WhereTold (g.D.Disk.state l.fn.disk) (λ before. g.D.Disk.state l.disk ≡ Some before);
      moments : WhereTold (g.D.Disk.state l.fn.disk) (λ before. AddsOnly g.D.Disk.moment g.D.Disk.left_since l.fn.disk l.disk (MayLeave before));
      count : g.D.Disk.faults l.disk ≡ g.D.Disk.faults l.fn.disk;
    }
