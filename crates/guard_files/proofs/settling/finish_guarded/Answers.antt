use Rattle.std.proofs.Common.{true, filter, Some, ◌∙◌, ap}
use Rattle.desk_ports.proofs.Moments.{AddsOnly-then}
use Rattle.guard_files.specs.Mounted.{is_left_over, StandsFor}
use Rattle.guard_files.proofs.Mounting.{low}
use Rattle.guard_files.proofs.MountMoments.{over_tidying, ends_guarded}
use Rattle.guard_files.proofs.settling.finish_guarded.Goals as goal

pub returns-in-Ok-tidy-clause-moments : goal.returns-in-Ok-tidy-clause-moments
returns-in-Ok-tidy-clause-moments g c base bytes told guarded backups are =
    let rest =
    c.deref.ensures.value ∙ c.in-Ok.ensures ∙ ap (λ held. filter (is_left_over true held) c.args.listing.now) c.requires in
    let restored = c.in-Ok-restore.ensures.done base told in
    AddsOnly-then g.D.Disk.moment g.D.Disk.left_since c.args.disk.now c.restore.new.disk c.tidy.new.disk
    (StandsFor base.current (Some c.args.set.now)) (c.restore.ensures.moments base bytes told guarded backups)
    (over_tidying g.D.Disk.state g.D.Disk.moment g.D.Disk.left_since base bytes c.args.set.now c.args.listing.now guarded backups are
    c.restore.new.disk c.tidy.new.disk c.deref.result.now rest restored c.tidy.ensures.moments)

pub returns-clause-moments : goal.returns-clause-moments
returns-clause-moments g c base bytes told guarded backups are =
    let rest =
    c.deref.ensures.value ∙ c.in-Ok.ensures ∙ ap (λ held. filter (is_left_over true held) c.args.listing.now) c.requires in
    let restored = c.in-Ok-restore.ensures.done base told in
    AddsOnly-then g.D.Disk.moment g.D.Disk.left_since c.args.disk.now c.restore.new.disk c.tidy.new.disk
    (StandsFor base.current (Some c.args.set.now)) (c.restore.ensures.moments base bytes told guarded backups)
    (over_tidying g.D.Disk.state g.D.Disk.moment g.D.Disk.left_since base bytes c.args.set.now c.args.listing.now guarded backups are
    c.restore.new.disk c.tidy.new.disk c.deref.result.now rest restored c.tidy.ensures.moments)

pub returns-in-Ok-tidy-clause-done : goal.returns-in-Ok-tidy-clause-done
returns-in-Ok-tidy-clause-done g c base bytes told guarded backups are =
    let rest =
    c.deref.ensures.value ∙ c.in-Ok.ensures ∙ ap (λ held. filter (is_left_over true held) c.args.listing.now) c.requires in
    let restored = c.in-Ok-restore.ensures.done base told in
    ends_guarded g.D.Disk.state g.D.Disk.moment g.D.Disk.left_since base bytes c.args.set.now c.args.listing.now guarded backups are
    c.tidy.new.disk c.deref.result.now rest
    (c.in-Ok-tidy.ensures.done (low base bytes c.args.set.now c.args.listing.now guarded backups are) restored)
