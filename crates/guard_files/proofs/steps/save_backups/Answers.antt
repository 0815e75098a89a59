use Rattle.std.proofs.Common.{[], ◌∷◌, Some, subst, refl}
use Rattle.desk_ports.specs.FileMap.{names_of}
use Rattle.desk_ports.specs.Disk.{Gives, Disturbs}
use Rattle.guard_files.specs.OwnName.{backup_name, list_name}
use Rattle.guard_files.specs.ListFile.{saved_list}
use Rattle.guard_files.specs.parts.Changes.{writes, list_write, set_writes}
use Rattle.guard_files.proofs.Rows.{IsAfter, IsAfter-first, IsAfter-first_failed, IsAfter-more, IsAfter-failed, IsAfter-durable, IsAfter-synced, IsAfter-unsynced}
use Rattle.guard_files.proofs.steps.save_backups.Goals as goal
use Rattle.guard_files.proofs.steps.save_backups.Goals.{In_ok-write}

listed : (g : _) (c : In_ok-write g)
    → IsAfter g.D.Disk.state g.D.Disk.moment g.D.Disk.left_since (set_writes backup_name c.args.files.now) (set_writes backup_name c.args.files.now) c.args.disk.now c.write.new.self
listed g c =
    IsAfter-more g.D.Disk.state g.D.Disk.moment g.D.Disk.left_since (set_writes backup_name c.args.files.now) (writes backup_name c.args.files.now) []
    (backup_name list_name) (Some (saved_list (names_of c.args.files.now))) c.args.disk.now c.write_backups.new.disk c.write.new.self refl
    (IsAfter-first g.D.Disk.state g.D.Disk.moment g.D.Disk.left_since (writes backup_name c.args.files.now) (list_write backup_name c.args.files.now ∷ [])
    c.args.disk.now c.write_backups.new.disk c.in_ok-write_backups.ensures.done c.write_backups.ensures.moments)
    (subst (λ name. Gives (g.D.Disk.state c.write_backups.new.disk) name (Some (saved_list (names_of c.args.files.now))) (g.D.Disk.state c.write.new.self)) c.requires.list_name
    (subst (λ bytes. Gives (g.D.Disk.state c.write_backups.new.disk) c.args.list_backup.now (Some bytes) (g.D.Disk.state c.write.new.self)) c.requires.list
    c.in_ok-write.ensures.written))
    c.write.ensures.time

pub returns-in_err-write_backups-clause-moments : goal.returns-in_err-write_backups-clause-moments
returns-in_err-write_backups-clause-moments g c =
    IsAfter-first_failed g.D.Disk.state g.D.Disk.moment g.D.Disk.left_since (writes backup_name c.args.files.now) (list_write backup_name c.args.files.now ∷ [])
    c.args.disk.now c.write_backups.new.disk c.write_backups.ensures.moments

pub returns-in_err-write-clause-moments : goal.returns-in_err-write-clause-moments
returns-in_err-write-clause-moments g c =
    IsAfter-failed g.D.Disk.state g.D.Disk.moment g.D.Disk.left_since (set_writes backup_name c.args.files.now) (writes backup_name c.args.files.now) []
    (backup_name list_name) (Some (saved_list (names_of c.args.files.now))) c.args.disk.now c.write_backups.new.disk c.write.new.self refl
    (IsAfter-first g.D.Disk.state g.D.Disk.moment g.D.Disk.left_since (writes backup_name c.args.files.now) (list_write backup_name c.args.files.now ∷ [])
    c.args.disk.now c.write_backups.new.disk c.in_ok-write_backups.ensures.done c.write_backups.ensures.moments)
    (subst (λ name. Disturbs (g.D.Disk.state c.write_backups.new.disk) name (g.D.Disk.state c.write.new.self)) c.requires.list_name
    c.in_err-write.ensures.disturbed)
    c.write.ensures.time

pub returns-clause-done : goal.returns-clause-done
returns-clause-done g c =
    IsAfter-durable g.D.Disk.state g.D.Disk.moment g.D.Disk.left_since (set_writes backup_name c.args.files.now) c.args.disk.now c.write.new.self c.sync.new.self
    (listed g (goal.at.returns-clause-done g c).In_ok-write) c.in_ok-sync.ensures.durable

pub returns-clause-moments : goal.returns-clause-moments
returns-clause-moments g c =
    IsAfter-synced g.D.Disk.state g.D.Disk.moment g.D.Disk.left_since (set_writes backup_name c.args.files.now) c.args.disk.now c.write.new.self c.sync.new.self
    (listed g (goal.at.returns-clause-moments g c).In_ok-write) c.in_ok-sync.ensures.durable (g.met.D.Disk.touched_only c.write.new.self) c.sync.ensures.time

pub returns-in_err-sync-clause-moments : goal.returns-in_err-sync-clause-moments
returns-in_err-sync-clause-moments g c =
    IsAfter-unsynced g.D.Disk.state g.D.Disk.moment g.D.Disk.left_since (set_writes backup_name c.args.files.now) c.args.disk.now c.write.new.self c.sync.new.self
    (listed g (goal.at.returns-in_err-sync-clause-moments g c).In_ok-write) c.in_err-sync.ensures.kept c.sync.ensures.time
