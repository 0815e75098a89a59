use Rattle.std.proofs.Common.{refl}
use Rattle.desk_ports.proofs.Answering.{told-change, disturbs-change, time-change}
use Rattle.desk_ports.specs.declared.disk_calls.DiskCall.{DiskCall}
use Rattle.desk_ports.specs.declared.disk_calls.DiskCall.TheVariants.{Write}
use Rattle.desk_ports.proofs.mem_disk.MemDiskDisk.write.Goals as goal

pub returns-clause-written : goal.returns-clause-written
returns-clause-written c =
    let call : DiskCall = Write (record { name = c.args.name.now; bytes = c.args.bytes.now }) in
    told-change c.args.self.now c.write_file.new.self call c.write_file.result c.write_file.ensures.answered

pub returns-clause-disturbed : goal.returns-clause-disturbed
returns-clause-disturbed c =
    let call : DiskCall = Write (record { name = c.args.name.now; bytes = c.args.bytes.now }) in
    disturbs-change c.args.self.now c.write_file.new.self call c.args.name.now c.write_file.result (λ state. refl) c.write_file.ensures.answered

pub returns-clause-time : goal.returns-clause-time
returns-clause-time c =
    let call : DiskCall = Write (record { name = c.args.name.now; bytes = c.args.bytes.now }) in
    time-change c.args.self.now c.write_file.new.self call c.write_file.result c.write_file.ensures.answered
