use Rattle.std.proofs.Common.{◌+◌, Some, take, drop, subst, sym, ◌∙◌}
use Rattle.desk_ports.specs.declared.file_sets.SetFile.{SetFile}
use Rattle.desk_ports.specs.Disk.{Gives}
use Rattle.guard_files.specs.OwnName.{primary_name}
use Rattle.guard_files.specs.parts.Changes.{Change, writes}
use Rattle.guard_files.proofs.Rows.{IsAfter, IsAfter-more, IsAfter-failed, row_so_far, row_split}
use Rattle.guard_files.proofs.steps.write_primaries.Goals as goal

abbrev primary_write : SetFile → Change
primary_write file = (primary_name file.name, Some file.bytes)

pub returns-in_err-write-clause-moments : goal.returns-in_err-write-clause-moments
returns-in_err-write-clause-moments g c =
    IsAfter-failed g.D.Disk.state g.D.Disk.moment g.D.Disk.left_since (writes primary_name c.args.files.now)
    (writes primary_name (take c.loop-file.file-index c.args.files.now)) (writes primary_name (drop (c.loop-file.file-index + 1) c.args.files.now))
    c.file-item.result.name (Some c.file-item.result.bytes) c.args.disk.now c.loop-file.disk c.write.new.self
    (row_split primary_write c.args.files.now c.loop-file.file-index c.file-item.result c.loop-file-test.true c.file-item.is)
    c.loop-file.invariant.row c.in_err-write.ensures.disturbed c.write.ensures.time

pub loop-file-preserved : goal.loop-file-preserved
loop-file-preserved g c =
    record {
      row =
          subst
          (λ done. IsAfter g.D.Disk.state g.D.Disk.moment g.D.Disk.left_since (writes primary_name c.args.files.now) done c.args.disk.now c.write.new.self)
          (sym (row_so_far primary_write c.args.files.now c.loop-file.file-index c.file-item.result c.loop-file-test.true c.file-item.is))
          (IsAfter-more g.D.Disk.state g.D.Disk.moment g.D.Disk.left_since (writes primary_name c.args.files.now)
          (writes primary_name (take c.loop-file.file-index c.args.files.now)) (writes primary_name (drop (c.loop-file.file-index + 1) c.args.files.now))
          c.file-item.result.name (Some c.file-item.result.bytes) c.args.disk.now c.loop-file.disk c.write.new.self
          (row_split primary_write c.args.files.now c.loop-file.file-index c.file-item.result c.loop-file-test.true c.file-item.is)
          c.loop-file.invariant.row
          (subst (λ bytes. Gives (g.D.Disk.state c.loop-file.disk) c.file-item.result.name (Some bytes) (g.D.Disk.state c.write.new.self))
          c.as_slice.ensures c.in_ok-write.ensures.written)
          c.write.ensures.time);
      count = c.in_ok-write.ensures.count ∙ c.loop-file.invariant.count;
    }

pub returns-in_err-write-clause-tells : goal.returns-in_err-write-clause-tells
returns-in_err-write-clause-tells g c before told =
    let failed = c.in_err-write.ensures.disturbed _ (c.loop-file.invariant.row.reached before told) in
    (failed.0, failed.1)
