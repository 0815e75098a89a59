use Rattle.std.proofs.Common.{refl}
use Rattle.desk_ports.proofs.Answering.{told-change, keeps-change, time-change}
use Rattle.desk_ports.specs.declared.disk_calls.DiskCall.TheVariants.{Sync}
use Rattle.desk_ports.proofs.mem_disk.MemDiskDisk.sync.Goals as goal

pub returns-clause-durable : goal.returns-clause-durable
returns-clause-durable c =
    told-change c.args.self.now c.change.new.self Sync c.change.result c.change.ensures.answered

pub returns-clause-kept : goal.returns-clause-kept
returns-clause-kept c =
    keeps-change c.args.self.now c.change.new.self Sync c.change.result (λ state. refl) c.change.ensures.answered

pub returns-clause-time : goal.returns-clause-time
returns-clause-time c =
    time-change c.args.self.now c.change.new.self Sync c.change.result c.change.ensures.answered
