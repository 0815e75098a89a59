use Rattle.std.proofs.Common.{refl}
use Rattle.desk_ports.specs.FileMap.{AreNamesOf}
use Rattle.desk_ports.proofs.Answering.{time-call, told-call}
use Rattle.desk_ports.specs.declared.disk_calls.DiskCall.TheVariants.{Names}
use Rattle.desk_ports.proofs.mem_disk.MemDiskDisk.names.Goals as goal

pub returns-clause-listed : goal.returns-clause-listed
returns-clause-listed c =
    told-call c.args.self.now c.list_names.new.self Names (λ names state. AreNamesOf state.current names.items) c.list_names.result
    (λ state. refl) c.list_names.ensures.answered c.list_names.ensures.names

pub returns-clause-time : goal.returns-clause-time
returns-clause-time c =
    time-call c.args.self.now c.list_names.new.self Names c.list_names.result c.list_names.ensures.answered
