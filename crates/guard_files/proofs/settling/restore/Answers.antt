use Rattle.std.proofs.Common.{filter, Some, ◌∙◌, ap}
use Rattle.desk_ports.proofs.Moments.{AddsOnly-then}
use Rattle.guard_files.specs.Mounted.{goes, StandsFor}
use Rattle.guard_files.proofs.MountMoments.{over_renewal, told_primaries, told_renewal, over_fall}
use Rattle.guard_files.proofs.settling.restore.Goals as goal

pub returns-in-Err-save_primaries-clause-moments : goal.returns-in-Err-save_primaries-clause-moments
returns-in-Err-save_primaries-clause-moments g c base bytes told guarded backups =
    let gone = c.deref.ensures.value ∙ c.in-Ok.ensures ∙ ap (λ held. filter (goes held) c.args.listing.now) c.requires in
    over_renewal g.D.Disk.state g.D.Disk.moment g.D.Disk.left_since base bytes c.args.set.now c.args.listing.now guarded backups
    c.args.disk.now c.save_primaries.new.disk c.deref.result.now c.as_slice-2.result.now gone c.as_slice-2.ensures.files told
    c.save_primaries.ensures.moments

pub returns-in-Ok-lower_guard-clause-moments : goal.returns-in-Ok-lower_guard-clause-moments
returns-in-Ok-lower_guard-clause-moments g c base bytes told guarded backups =
    let gone = c.deref.ensures.value ∙ c.in-Ok.ensures ∙ ap (λ held. filter (goes held) c.args.listing.now) c.requires in
    let renewal =
    over_renewal g.D.Disk.state g.D.Disk.moment g.D.Disk.left_since base bytes c.args.set.now c.args.listing.now guarded backups
    c.args.disk.now c.save_primaries.new.disk c.deref.result.now c.as_slice-2.result.now gone c.as_slice-2.ensures.files told
    c.save_primaries.ensures.moments in
    let renewed =
    told_renewal g.D.Disk.state g.D.Disk.moment g.D.Disk.left_since base bytes c.args.set.now c.args.listing.now guarded backups
    c.args.disk.now c.save_primaries.new.disk c.deref.result.now c.as_slice-2.result.now gone c.as_slice-2.ensures.files told
    c.in-Ok-save_primaries.ensures.done in
    AddsOnly-then g.D.Disk.moment g.D.Disk.left_since c.args.disk.now c.save_primaries.new.disk c.lower_guard.new.disk
    (StandsFor base.current (Some c.args.set.now)) renewal
    (over_fall g.D.Disk.state g.D.Disk.moment g.D.Disk.left_since base bytes c.args.set.now c.args.listing.now guarded backups
    c.save_primaries.new.disk c.lower_guard.new.disk renewed c.lower_guard.ensures.moments)

pub returns-clause-moments : goal.returns-clause-moments
returns-clause-moments g c base bytes told guarded backups =
    let gone = c.deref.ensures.value ∙ c.in-Ok.ensures ∙ ap (λ held. filter (goes held) c.args.listing.now) c.requires in
    let renewal =
    over_renewal g.D.Disk.state g.D.Disk.moment g.D.Disk.left_since base bytes c.args.set.now c.args.listing.now guarded backups
    c.args.disk.now c.save_primaries.new.disk c.deref.result.now c.as_slice-2.result.now gone c.as_slice-2.ensures.files told
    c.save_primaries.ensures.moments in
    let renewed =
    told_renewal g.D.Disk.state g.D.Disk.moment g.D.Disk.left_since base bytes c.args.set.now c.args.listing.now guarded backups
    c.args.disk.now c.save_primaries.new.disk c.deref.result.now c.as_slice-2.result.now gone c.as_slice-2.ensures.files told
    c.in-Ok-save_primaries.ensures.done in
    AddsOnly-then g.D.Disk.moment g.D.Disk.left_since c.args.disk.now c.save_primaries.new.disk c.lower_guard.new.disk
    (StandsFor base.current (Some c.args.set.now)) renewal
    (over_fall g.D.Disk.state g.D.Disk.moment g.D.Disk.left_since base bytes c.args.set.now c.args.listing.now guarded backups
    c.save_primaries.new.disk c.lower_guard.new.disk renewed c.lower_guard.ensures.moments)

pub returns-in-Ok-lower_guard-clause-done : goal.returns-in-Ok-lower_guard-clause-done
returns-in-Ok-lower_guard-clause-done g c base told =
    let gone = c.deref.ensures.value ∙ c.in-Ok.ensures ∙ ap (λ held. filter (goes held) c.args.listing.now) c.requires in
    c.in-Ok-lower_guard.ensures.done _
    (told_primaries g.D.Disk.state base c.args.set.now (filter (goes (Some c.args.set.now)) c.args.listing.now) c.args.disk.now
    c.save_primaries.new.disk c.deref.result.now c.as_slice-2.result.now gone c.as_slice-2.ensures.files told
    c.in-Ok-save_primaries.ensures.done)
