use Rattle.std.proofs.Common.{Some, sym}
use Rattle.guard_files.proofs.Renewing.{nothing_goes, saved_again}
use Rattle.guard_files.proofs.settling.renew.Goals as goal

pub returns-clause-done : goal.returns-clause-done
returns-clause-done g c files rests =
    c.in_ok-save_set.ensures.done rests.0 rests.1 (Some c.args.set.now) rests.2.settled (sym (nothing_goes c.args.set.now))

pub returns-clause-moments : goal.returns-clause-moments
returns-clause-moments g c files rests =
    saved_again g.D.Disk.state g.D.Disk.moment g.D.Disk.left_since files c.args.set.now rests.0 c.args.disk.now c.save_set.new.disk rests.2
    (c.save_set.ensures.moments rests.0 rests.1 (Some c.args.set.now) rests.2.settled (sym (nothing_goes c.args.set.now)))

pub returns-in_err-save_set-clause-moments : goal.returns-in_err-save_set-clause-moments
returns-in_err-save_set-clause-moments g c files rests =
    saved_again g.D.Disk.state g.D.Disk.moment g.D.Disk.left_since files c.args.set.now rests.0 c.args.disk.now c.save_set.new.disk rests.2
    (c.save_set.ensures.moments rests.0 rests.1 (Some c.args.set.now) rests.2.settled (sym (nothing_goes c.args.set.now)))
