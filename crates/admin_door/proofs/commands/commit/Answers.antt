use Rattle.std.proofs.Common.{inl, refl}
use Rattle.desk_keeper.specs.Keeper.{disk_of, held_of}
use Rattle.admin_door.specs.Side.{side_of}
use Rattle.admin_door.proofs.Answering.{either-way, commits-shown, lacks-unshown, commits-refused}
use Rattle.admin_door.proofs.Stopping.{rests-kept, applies}
use Rattle.admin_door.proofs.commands.commit.Goals as goal

pub returns-in-Ok-clause-committed : goal.returns-in-Ok-clause-committed
returns-in-Ok-clause-committed g c =
    let old = side_of g.D.Disk.faults c.args.keeper.now (g.P.KeptPublisher.states c.args.publisher.now) (g.A.Hall.tally c.args.hall.now)
    (g.A.Hall.calls c.args.hall.now) in
    let now = side_of g.D.Disk.faults c.commit_prepared.new.keeper (g.P.KeptPublisher.states c.commit_prepared.new.publisher)
    (g.A.Hall.tally c.commit_prepared.new.hall) (g.A.Hall.calls c.commit_prepared.new.hall) in
    let command = c.args.command.now in
    let accepted = c.in-Ok.ensures.accepted in
    let desk = c.in-Ok.ensures.desk in
    either-way c.commit_prepared.result _ _ _ _
    (λ replies shows. commits-shown command old now c.in-Ok.prepared.desk c.in-Ok.prepared.erased replies.items accepted desk
    c.in-Ok.ensures.erased shows)
    (λ ended is. (is.0, lacks-unshown command old now c.in-Ok.prepared.desk accepted desk is.1))
    c.commit_prepared.ensures.shown

pub returns-in-Err-clause-committed : goal.returns-in-Err-clause-committed
returns-in-Err-clause-committed g c =
    let old = side_of g.D.Disk.faults c.args.keeper.now (g.P.KeptPublisher.states c.args.publisher.now) (g.A.Hall.tally c.args.hall.now)
    (g.A.Hall.calls c.args.hall.now) in
    either-way c.tell_refusal.result _ _ _ _
    (λ replies told. commits-refused c.args.command.now old c.in-Err.refusal replies.items c.in-Err.ensures.refused told)
    (λ ended is. (is, inl refl)) c.tell_refusal.ensures

pub returns-in-Ok-clause-stops : goal.returns-in-Ok-clause-stops
returns-in-Ok-clause-stops g c before told kept =
    applies g.D.Disk.moment g.D.Disk.left_since (disk_of c.args.keeper.now) (disk_of c.commit_prepared.new.keeper)
    c.args.keeper.now.desk c.in-Ok.prepared.desk c.args.command.now c.in-Ok.ensures.accepted c.in-Ok.ensures.desk
    (c.commit_prepared.ensures.stops before told kept)

pub returns-in-Err-clause-stops : goal.returns-in-Err-clause-stops
returns-in-Err-clause-stops g c before told kept =
    rests-kept g.D.Disk.moment g.D.Disk.left_since (disk_of c.args.keeper.now) before c.args.keeper.now.desk
    (held_of c.args.keeper.now) c.args.command.now kept
    (λ left was. g.met.D.Disk.only_now (disk_of c.args.keeper.now) left before told was)
