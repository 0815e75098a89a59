use Rattle.std.proofs.Common.{refl}
use Rattle.desk_ports.proofs.Answering.{told-change, disturbs-change, time-change}
use Rattle.desk_ports.specs.declared.disk_calls.DiskCall.TheVariants.{Remove}
use Rattle.desk_ports.proofs.mem_disk.MemDiskDisk.remove.Goals as goal

pub returns-clause-removed : goal.returns-clause-removed
returns-clause-removed c =
    told-change c.args.self.now c.remove_file.new.self (Remove c.args.name.now) c.remove_file.result c.remove_file.ensures.answered

pub returns-clause-disturbed : goal.returns-clause-disturbed
returns-clause-disturbed c =
    disturbs-change c.args.self.now c.remove_file.new.self (Remove c.args.name.now) c.args.name.now c.remove_file.result
    (λ state. refl) c.remove_file.ensures.answered

pub returns-clause-time : goal.returns-clause-time
returns-clause-time c =
    time-change c.args.self.now c.remove_file.new.self (Remove c.args.name.now) c.remove_file.result c.remove_file.ensures.answered
