use Rattle.std.proofs.Common.{◌+◌, Some, take, drop, subst, sym, ◌∙◌, ap}
use Rattle.desk_ports.specs.declared.file_sets.SetFile.{SetFile}
use Rattle.desk_ports.specs.Disk.{Gives, Disturbs}
use Rattle.guard_files.specs.OwnName.{backup_name}
use Rattle.guard_files.specs.parts.Changes.{Change, writes}
use Rattle.guard_files.proofs.Rows.{IsAfter, IsAfter-more, IsAfter-failed, row_so_far, row_split, placed_at}
use Rattle.guard_files.proofs.steps.write_backups.Goals as goal

abbrev backup_write : SetFile → Change
backup_write file = (backup_name file.name, Some file.bytes)

pub returns-in_err-write-clause-moments : goal.returns-in_err-write-clause-moments
returns-in_err-write-clause-moments g c =
    let name = placed_at backup_name c.args.names.now c.args.files.now c.loop-i.i c.index-names-i.result c.index-files-i.result c.requires c.loop-i-test.true c.index-names-i.is c.index-files-i.is in
    IsAfter-failed g.D.Disk.state g.D.Disk.moment g.D.Disk.left_since (writes backup_name c.args.files.now)
    (writes backup_name (take c.loop-i.i c.args.files.now)) (writes backup_name (drop (c.loop-i.i + 1) c.args.files.now))
    (backup_name c.index-files-i.result.name) (Some c.index-files-i.result.bytes) c.args.disk.now c.loop-i.disk c.write.new.self
    (row_split backup_write c.args.files.now c.loop-i.i c.index-files-i.result c.loop-i-test.true c.index-files-i.is)
    c.loop-i.invariant.row
    (subst (λ name. Disturbs (g.D.Disk.state c.loop-i.disk) name (g.D.Disk.state c.write.new.self)) name c.in_err-write.ensures.disturbed)
    c.write.ensures.time

pub loop-i-preserved : goal.loop-i-preserved
loop-i-preserved g c =
    let name = placed_at backup_name c.args.names.now c.args.files.now c.loop-i.i c.index-names-i.result c.index-files-i.result c.requires c.loop-i-test.true c.index-names-i.is c.index-files-i.is in
    record {
      row =
          subst
          (λ done. IsAfter g.D.Disk.state g.D.Disk.moment g.D.Disk.left_since (writes backup_name c.args.files.now) done c.args.disk.now c.write.new.self)
          (sym (row_so_far backup_write c.args.files.now c.loop-i.i c.index-files-i.result c.loop-i-test.true c.index-files-i.is))
          (IsAfter-more g.D.Disk.state g.D.Disk.moment g.D.Disk.left_since (writes backup_name c.args.files.now)
          (writes backup_name (take c.loop-i.i c.args.files.now)) (writes backup_name (drop (c.loop-i.i + 1) c.args.files.now))
          (backup_name c.index-files-i.result.name) (Some c.index-files-i.result.bytes) c.args.disk.now c.loop-i.disk c.write.new.self
          (row_split backup_write c.args.files.now c.loop-i.i c.index-files-i.result c.loop-i-test.true c.index-files-i.is)
          c.loop-i.invariant.row
          (subst (λ name. Gives (g.D.Disk.state c.loop-i.disk) name (Some c.index-files-i.result.bytes) (g.D.Disk.state c.write.new.self)) name
          (subst (λ bytes. Gives (g.D.Disk.state c.loop-i.disk) c.index-names-i.result (Some bytes) (g.D.Disk.state c.write.new.self))
          (c.as_slice.ensures ∙ ap (λ (file : SetFile). file.bytes) (sym c.index-files-i.is)) c.in_ok-write.ensures.written))
          c.write.ensures.time);
      count = c.in_ok-write.ensures.count ∙ c.loop-i.invariant.count;
    }

pub returns-in_err-write-clause-tells : goal.returns-in_err-write-clause-tells
returns-in_err-write-clause-tells g c before told =
    let failed = c.in_err-write.ensures.disturbed _ (c.loop-i.invariant.row.reached before told) in
    (failed.0, failed.1)
