use Rattle.desk_keeper.specs.Keeper.{disk_of, held_of}
use Rattle.admin_door.specs.Side.{side_of}
use Rattle.admin_door.proofs.Answering.{either-way, settles-shown, unsettles-unshown}
use Rattle.admin_door.proofs.Stopping.{rests-as, allows-kept}
use Rattle.admin_door.proofs.Damage.{err-way, unharmed}
use Rattle.admin_door.proofs.settling.settle.Goals as goal

pub returns-in-Ok-clause-settled : goal.returns-in-Ok-clause-settled
returns-in-Ok-clause-settled g c =
    let told = g.D.Disk.state (disk_of c.args.keeper.now) in
    let tally = g.A.Hall.tally c.args.hall.now in
    let calls = g.A.Hall.calls c.args.hall.now in
    let old = side_of g.D.Disk.faults c.args.keeper.now (g.P.KeptPublisher.states c.args.publisher.now) tally calls in
    let found = side_of g.D.Disk.faults c.remount.new.keeper (g.P.KeptPublisher.states c.args.publisher.now) tally calls in
    let now = side_of g.D.Disk.faults c.remount.new.keeper (g.P.KeptPublisher.states c.publish_kept-in-Ok.new.publisher)
    (g.A.Hall.tally c.publish_kept-in-Ok.new.hall) (g.A.Hall.calls c.publish_kept-in-Ok.new.hall) in
    let is_found = c.in-Ok.ensures.remounted (g.P.KeptPublisher.states c.args.publisher.now) tally calls in
    either-way c.publish_kept-in-Ok.result _ _ _ _ (λ done shown. settles-shown told old found now is_found shown)
    (λ reason is. unsettles-unshown told old found now reason is_found is) c.publish_kept-in-Ok.ensures.shown

pub returns-in-Err-clause-settled : goal.returns-in-Err-clause-settled
returns-in-Err-clause-settled g c =
    c.in-Err.ensures.remounted (g.P.KeptPublisher.states c.args.publisher.now) (g.A.Hall.tally c.args.hall.now) (g.A.Hall.calls c.args.hall.now)

pub returns-then-is_decided-clause-stops : goal.returns-then-is_decided-clause-stops
returns-then-is_decided-clause-stops g c before told =
    let disk = disk_of c.args.keeper.now in
    rests-as g.D.Disk.moment g.D.Disk.left_since disk before (λ left was. g.met.D.Disk.only_now disk left before told was)

pub returns-then-is_decided-clause-kept : goal.returns-then-is_decided-clause-kept
returns-then-is_decided-clause-kept g c before told known decided =
    ((before, told, known decided), allows-kept before c.args.keeper.now.desk (held_of c.args.keeper.now) (known decided))

pub returns-in-Ok-clause-damaged : goal.returns-in-Ok-clause-damaged
returns-in-Ok-clause-damaged g c =
    err-way c.publish_kept-in-Ok.result _ _ _
    (λ reason is before told. unharmed c.args.keeper.now.desk (g.D.Disk.state (disk_of c.remount.new.keeper)) reason is.0)
    c.publish_kept-in-Ok.ensures.shown

pub returns-then-is_decided-clause-damaged : goal.returns-then-is_decided-clause-damaged
returns-then-is_decided-clause-damaged g c =
    err-way c.publish_kept.result _ _ _
    (λ reason is before told. unharmed c.args.keeper.now.desk (g.D.Disk.state (disk_of c.args.keeper.now)) reason is.0)
    c.publish_kept.ensures.shown
