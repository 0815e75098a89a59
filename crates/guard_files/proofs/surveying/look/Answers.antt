use Rattle.std.proofs.Common.{Ok}
use Rattle.desk_ports.specs.Disk.{MayLeave}
use Rattle.desk_ports.proofs.Moments.{AddsOnly-none, LeavesOnly-from}
use Rattle.guard_files.proofs.MountMoments.{recover-read}
use Rattle.guard_files.proofs.surveying.look.Goals as goal

-- no call was made yet
pub returns-in-Err-clause-moments : goal.returns-in-Err-clause-moments
returns-in-Err-clause-moments g c before told =
    let disk = c.args.disk.now in
    LeavesOnly-from g.D.Disk.moment g.D.Disk.left_since disk disk (MayLeave before)
    (λ left was. g.met.D.Disk.only_now disk left before told was)
    (AddsOnly-none g.D.Disk.moment g.D.Disk.left_since disk (MayLeave before))

pub returns-in-Ok-survey_of-clause-moments : goal.returns-in-Ok-survey_of-clause-moments
returns-in-Ok-survey_of-clause-moments g c before told =
    LeavesOnly-from g.D.Disk.moment g.D.Disk.left_since c.args.disk.now c.survey_of.new.disk (MayLeave before)
    (λ left was. g.met.D.Disk.only_now c.args.disk.now left before told was) (c.survey_of.ensures.moments before told)

pub returns-in-Err-survey_of-clause-moments : goal.returns-in-Err-survey_of-clause-moments
returns-in-Err-survey_of-clause-moments g c before told =
    LeavesOnly-from g.D.Disk.moment g.D.Disk.left_since c.args.disk.now c.survey_of.new.disk (MayLeave before)
    (λ left was. g.met.D.Disk.only_now c.args.disk.now left before told was) (c.survey_of.ensures.moments before told)

pub returns-in-Ok-survey_of-clause-held : goal.returns-in-Ok-survey_of-clause-held
returns-in-Ok-survey_of-clause-held g c before told =
    let found = (c.in-Ok-survey_of.ensures.done before told).1 in
    recover-read before.current c.in-Ok-survey_of.found.guarded (Ok c.in-Ok-survey_of.found.held) found.guard found.read
