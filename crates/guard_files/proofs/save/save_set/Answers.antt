use Rattle.guard_files.proofs.SaveMoments.{start_of, in_backups, in_guard, in_primaries, in_lowering, in_cleaning}
use Rattle.guard_files.proofs.SaveMoments.{past_backups, past_guard, past_primaries, past_lowering, past_cleaning}
use Rattle.guard_files.proofs.save.save_set.Goals as goal

pub returns-in_err-save_backups-clause-moments : goal.returns-in_err-save_backups-clause-moments
returns-in_err-save_backups-clause-moments g c before told held settled gone_is =
    let start =
    start_of g.D.Disk.state g.D.Disk.moment g.D.Disk.left_since c.args.set.now held before c.args.disk.now settled
    (g.met.D.Disk.touched_only c.args.disk.now) c.requires.listable told (g.met.D.Disk.only_now c.args.disk.now) in
    in_backups start c.save_backups.new.disk c.save_backups.ensures.moments

pub returns-in_err-raise_guard-clause-moments : goal.returns-in_err-raise_guard-clause-moments
returns-in_err-raise_guard-clause-moments g c before told held settled gone_is =
    let start =
    start_of g.D.Disk.state g.D.Disk.moment g.D.Disk.left_since c.args.set.now held before c.args.disk.now settled
    (g.met.D.Disk.touched_only c.args.disk.now) c.requires.listable told (g.met.D.Disk.only_now c.args.disk.now) in
    let one = past_backups start c.save_backups.new.disk c.save_backups.ensures.moments c.in_ok-save_backups.ensures.done in
    in_guard start c.raise_guard.new.disk one c.raise_guard.ensures.moments

pub returns-in_err-save_primaries-clause-moments : goal.returns-in_err-save_primaries-clause-moments
returns-in_err-save_primaries-clause-moments g c before told held settled gone_is =
    let start =
    start_of g.D.Disk.state g.D.Disk.moment g.D.Disk.left_since c.args.set.now held before c.args.disk.now settled
    (g.met.D.Disk.touched_only c.args.disk.now) c.requires.listable told (g.met.D.Disk.only_now c.args.disk.now) in
    let one = past_backups start c.save_backups.new.disk c.save_backups.ensures.moments c.in_ok-save_backups.ensures.done in
    let two = past_guard start c.raise_guard.new.disk one c.raise_guard.ensures.moments c.in_ok-raise_guard.ensures.done in
    in_primaries start c.save_primaries.new.disk c.args.gone.now gone_is two c.save_primaries.ensures.moments

pub returns-in_err-lower_guard-clause-moments : goal.returns-in_err-lower_guard-clause-moments
returns-in_err-lower_guard-clause-moments g c before told held settled gone_is =
    let start =
    start_of g.D.Disk.state g.D.Disk.moment g.D.Disk.left_since c.args.set.now held before c.args.disk.now settled
    (g.met.D.Disk.touched_only c.args.disk.now) c.requires.listable told (g.met.D.Disk.only_now c.args.disk.now) in
    let one = past_backups start c.save_backups.new.disk c.save_backups.ensures.moments c.in_ok-save_backups.ensures.done in
    let two = past_guard start c.raise_guard.new.disk one c.raise_guard.ensures.moments c.in_ok-raise_guard.ensures.done in
    let three =
    past_primaries start c.save_primaries.new.disk c.args.gone.now gone_is two c.save_primaries.ensures.moments
    c.in_ok-save_primaries.ensures.done in
    in_lowering start c.lower_guard.new.disk three c.lower_guard.ensures.moments

pub returns-in_err-drop_backups-clause-moments : goal.returns-in_err-drop_backups-clause-moments
returns-in_err-drop_backups-clause-moments g c before told held settled gone_is =
    let start =
    start_of g.D.Disk.state g.D.Disk.moment g.D.Disk.left_since c.args.set.now held before c.args.disk.now settled
    (g.met.D.Disk.touched_only c.args.disk.now) c.requires.listable told (g.met.D.Disk.only_now c.args.disk.now) in
    let one = past_backups start c.save_backups.new.disk c.save_backups.ensures.moments c.in_ok-save_backups.ensures.done in
    let two = past_guard start c.raise_guard.new.disk one c.raise_guard.ensures.moments c.in_ok-raise_guard.ensures.done in
    let three =
    past_primaries start c.save_primaries.new.disk c.args.gone.now gone_is two c.save_primaries.ensures.moments
    c.in_ok-save_primaries.ensures.done in
    let four = past_lowering start c.lower_guard.new.disk three c.lower_guard.ensures.moments c.in_ok-lower_guard.ensures.done in
    in_cleaning start c.drop_backups.new.disk c.args.backups.now c.requires.backups four c.drop_backups.ensures.moments

pub returns-clause-moments : goal.returns-clause-moments
returns-clause-moments g c before told held settled gone_is =
    let start =
    start_of g.D.Disk.state g.D.Disk.moment g.D.Disk.left_since c.args.set.now held before c.args.disk.now settled
    (g.met.D.Disk.touched_only c.args.disk.now) c.requires.listable told (g.met.D.Disk.only_now c.args.disk.now) in
    let one = past_backups start c.save_backups.new.disk c.save_backups.ensures.moments c.in_ok-save_backups.ensures.done in
    let two = past_guard start c.raise_guard.new.disk one c.raise_guard.ensures.moments c.in_ok-raise_guard.ensures.done in
    let three =
    past_primaries start c.save_primaries.new.disk c.args.gone.now gone_is two c.save_primaries.ensures.moments
    c.in_ok-save_primaries.ensures.done in
    let four = past_lowering start c.lower_guard.new.disk three c.lower_guard.ensures.moments c.in_ok-lower_guard.ensures.done in
    in_cleaning start c.drop_backups.new.disk c.args.backups.now c.requires.backups four c.drop_backups.ensures.moments

pub returns-clause-done : goal.returns-clause-done
returns-clause-done g c before told held settled gone_is =
    let start =
    start_of g.D.Disk.state g.D.Disk.moment g.D.Disk.left_since c.args.set.now held before c.args.disk.now settled
    (g.met.D.Disk.touched_only c.args.disk.now) c.requires.listable told (g.met.D.Disk.only_now c.args.disk.now) in
    let one = past_backups start c.save_backups.new.disk c.save_backups.ensures.moments c.in_ok-save_backups.ensures.done in
    let two = past_guard start c.raise_guard.new.disk one c.raise_guard.ensures.moments c.in_ok-raise_guard.ensures.done in
    let three =
    past_primaries start c.save_primaries.new.disk c.args.gone.now gone_is two c.save_primaries.ensures.moments
    c.in_ok-save_primaries.ensures.done in
    let four = past_lowering start c.lower_guard.new.disk three c.lower_guard.ensures.moments c.in_ok-lower_guard.ensures.done in
    past_cleaning start c.drop_backups.new.disk c.args.backups.now c.requires.backups four c.in_ok-drop_backups.ensures.done
