use Rattle.std.proofs.Common.{◌∙◌}
use Rattle.guard_files.proofs.MountMoments.{over_rest, rests_unguarded, ends_unguarded}
use Rattle.guard_files.proofs.settling.finish.Goals as goal

pub returns-in-Ok-tidy-clause-moments : goal.returns-in-Ok-tidy-clause-moments
returns-in-Ok-tidy-clause-moments g c base told unguarded reads are =
    over_rest g.D.Disk.state g.D.Disk.moment g.D.Disk.left_since base c.args.held.now c.args.listing.now unguarded reads are
    c.args.disk.now c.tidy.new.disk c.deref.result.now (c.deref.ensures.value ∙ c.in-Ok.ensures) told c.tidy.ensures.moments

pub returns-clause-moments : goal.returns-clause-moments
returns-clause-moments g c base told unguarded reads are =
    over_rest g.D.Disk.state g.D.Disk.moment g.D.Disk.left_since base c.args.held.now c.args.listing.now unguarded reads are
    c.args.disk.now c.tidy.new.disk c.deref.result.now (c.deref.ensures.value ∙ c.in-Ok.ensures) told c.tidy.ensures.moments

pub returns-in-Ok-tidy-clause-done : goal.returns-in-Ok-tidy-clause-done
returns-in-Ok-tidy-clause-done g c base told unguarded reads are =
    rests_unguarded g.D.Disk.state g.D.Disk.moment g.D.Disk.left_since base c.args.held.now c.args.listing.now unguarded reads are
    c.tidy.new.disk c.deref.result.now (c.deref.ensures.value ∙ c.in-Ok.ensures) (c.in-Ok-tidy.ensures.done base told)

pub returns-in-Ok-tidy-clause-current : goal.returns-in-Ok-tidy-clause-current
returns-in-Ok-tidy-clause-current g c base told unguarded reads are current =
    ends_unguarded g.D.Disk.state g.D.Disk.moment g.D.Disk.left_since base c.args.held.now c.args.listing.now unguarded reads are
    c.tidy.new.disk c.deref.result.now (c.deref.ensures.value ∙ c.in-Ok.ensures) (c.in-Ok-tidy.ensures.done base told) current
