use Rattle.desk_ports.proofs.Answering.{time-call}
use Rattle.desk_ports.specs.declared.disk_calls.DiskCall.TheVariants.{Read}
use Rattle.desk_ports.proofs.mem_disk.MemDiskDisk.read.Goals as goal

pub returns-clause-time : goal.returns-clause-time
returns-clause-time c =
    time-call c.args.self.now c.read_file.new.self (Read c.args.name.now) c.read_file.result c.read_file.ensures.answered
