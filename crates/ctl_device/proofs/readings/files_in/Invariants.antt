use Rattle.desk_ports.specs.Disk.{KeepsState}
use Rattle.ctl_device.proofs.readings.files_in.Given as goal

abbrev pub invariant-loop-name : goal.invariant-loop-name
invariant-loop-name g l = KeepsState (g.D.Disk.state l.fn.disk) (g.D.Disk.state l.disk)
