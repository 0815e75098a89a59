use Rattle.std.proofs.Common.{[], ◌∷◌, None, subst, sym, refl}
use Rattle.std.proofs.lemmas.List.{append-nil}
use Rattle.desk_ports.specs.Disk.{Gives, Disturbs}
use Rattle.guard_files.specs.OwnName.{backup_name, list_name}
use Rattle.guard_files.specs.parts.Changes.{removals, backups_away}
use Rattle.guard_files.proofs.Rows.{IsAfter, IsAfter-none, IsAfter-more, IsAfter-failed, IsAfter-row, IsAfter-row_failed}
use Rattle.guard_files.proofs.steps.drop_backups.Goals as goal
use Rattle.guard_files.proofs.steps.drop_backups.Goals.{In_ok-remove}

unlisted : (g : _) (c : In_ok-remove g)
    → IsAfter g.D.Disk.state g.D.Disk.moment g.D.Disk.left_since (backups_away c.args.backups.now) ((backup_name list_name, None) ∷ []) c.args.disk.now c.remove.new.self
unlisted g c =
    IsAfter-more g.D.Disk.state g.D.Disk.moment g.D.Disk.left_since (backups_away c.args.backups.now) [] (removals c.args.backups.now)
    (backup_name list_name) None c.args.disk.now c.args.disk.now c.remove.new.self refl
    (IsAfter-none g.D.Disk.state g.D.Disk.moment g.D.Disk.left_since (backups_away c.args.backups.now) c.args.disk.now)
    (subst (λ name. Gives (g.D.Disk.state c.args.disk.now) name None (g.D.Disk.state c.remove.new.self)) c.requires c.in_ok-remove.ensures.removed)
    c.remove.ensures.time

pub returns-in_err-remove-clause-moments : goal.returns-in_err-remove-clause-moments
returns-in_err-remove-clause-moments g c =
    IsAfter-failed g.D.Disk.state g.D.Disk.moment g.D.Disk.left_since (backups_away c.args.backups.now) [] (removals c.args.backups.now)
    (backup_name list_name) None c.args.disk.now c.args.disk.now c.remove.new.self refl
    (IsAfter-none g.D.Disk.state g.D.Disk.moment g.D.Disk.left_since (backups_away c.args.backups.now) c.args.disk.now)
    (subst (λ name. Disturbs (g.D.Disk.state c.args.disk.now) name (g.D.Disk.state c.remove.new.self)) c.requires c.in_err-remove.ensures.disturbed)
    c.remove.ensures.time

pub returns-in_err-remove_files-clause-moments : goal.returns-in_err-remove_files-clause-moments
returns-in_err-remove_files-clause-moments g c =
    IsAfter-row_failed g.D.Disk.state g.D.Disk.moment g.D.Disk.left_since (backups_away c.args.backups.now) ((backup_name list_name, None) ∷ []) (removals c.args.backups.now) []
    c.args.disk.now c.remove.new.self c.remove_files.new.disk (sym (append-nil (backups_away c.args.backups.now)))
    (unlisted g (goal.at.returns-in_err-remove_files-clause-moments g c).In_ok-remove) c.remove_files.ensures.moments

pub returns-clause-done : goal.returns-clause-done
returns-clause-done g c =
    (IsAfter-row g.D.Disk.state g.D.Disk.moment g.D.Disk.left_since (backups_away c.args.backups.now) ((backup_name list_name, None) ∷ []) (removals c.args.backups.now) []
    c.args.disk.now c.remove.new.self c.remove_files.new.disk (sym (append-nil (backups_away c.args.backups.now)))
    (unlisted g (goal.at.returns-clause-done g c).In_ok-remove) c.in_ok-remove_files.ensures.done c.remove_files.ensures.moments).reached

pub returns-clause-moments : goal.returns-clause-moments
returns-clause-moments g c =
    (IsAfter-row g.D.Disk.state g.D.Disk.moment g.D.Disk.left_since (backups_away c.args.backups.now) ((backup_name list_name, None) ∷ []) (removals c.args.backups.now) []
    c.args.disk.now c.remove.new.self c.remove_files.new.disk (sym (append-nil (backups_away c.args.backups.now)))
    (unlisted g (goal.at.returns-clause-moments g c).In_ok-remove) c.in_ok-remove_files.ensures.done c.remove_files.ensures.moments).moments
