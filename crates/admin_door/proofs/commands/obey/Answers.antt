use Rattle.std.proofs.Common.{inl, inr, sym, subst}
use Rattle.desk_keeper.specs.Keeper.{disk_of}
use Rattle.admin_door.specs.Side.{side_of}
use Rattle.admin_door.specs.Settling.{IsHungFor}
use Rattle.admin_door.proofs.Adding.{settles-hung}
use Rattle.admin_door.proofs.Answering.{either-way}
use Rattle.admin_door.proofs.Stopping.{stands-behind}
use Rattle.admin_door.proofs.Damage.{ok-way, commits-undamaged, unsettled-damaged}
use Rattle.admin_door.proofs.Hanging.{hangs_then}
use Rattle.admin_door.proofs.commands.obey.Goals as goal

pub commit-requires-clause-hung : goal.commit-requires-clause-hung
commit-requires-clause-hung g c =
    let old = side_of g.D.Disk.faults c.args.keeper.now (g.P.KeptPublisher.states c.args.publisher.now) (g.A.Hall.tally c.args.hall.now)
    (g.A.Hall.calls c.args.hall.now) in
    let between =
    side_of g.D.Disk.faults c.settle.new.keeper (g.P.KeptPublisher.states c.settle.new.publisher) (g.A.Hall.tally c.settle.new.hall)
    (g.A.Hall.calls c.settle.new.hall) in
    subst (λ shown. IsHungFor shown between.published between.tally) (sym c.commit-shown.ensures.commit)
    (settles-hung (g.D.Disk.state (disk_of c.args.keeper.now)) old between c.in-Ok.ensures.settled)

pub returns-in-Ok-clause-obeyed : goal.returns-in-Ok-clause-obeyed
returns-in-Ok-clause-obeyed g c =
    let between =
    side_of g.D.Disk.faults c.settle.new.keeper (g.P.KeptPublisher.states c.settle.new.publisher) (g.A.Hall.tally c.settle.new.hall)
    (g.A.Hall.calls c.settle.new.hall) in
    let settles = c.in-Ok.ensures.settled in
    either-way c.commit.result _ _ _ _ (λ replies commits. inl (between, settles, commits))
    (λ ended is. (is.0, inl (between, settles, is.1))) c.commit.ensures.committed

pub returns-in-Err-clause-obeyed : goal.returns-in-Err-clause-obeyed
returns-in-Err-clause-obeyed g c =
    let unsettles = c.in-Err.ensures.settled in
    either-way c.tell_unsettled.result _ _ _ _ (λ replies told. inr (c.in-Err.reason, unsettles, told))
    (λ ended is. (is, inr (inl (c.in-Err.reason, unsettles)))) c.tell_unsettled.ensures

pub returns-in-Ok-clause-stops : goal.returns-in-Ok-clause-stops
returns-in-Ok-clause-stops g c before told known =
    let kept = c.settle.ensures.kept before told known c.in-Ok.ensures.decided in
    let rests = kept.0 in
    stands-behind g.D.Disk.moment g.D.Disk.left_since (disk_of c.args.keeper.now) (disk_of c.settle.new.keeper)
    (disk_of c.commit.new.keeper) before c.settle.new.keeper.desk c.args.command.now kept.1 (c.settle.ensures.stops before told)
    (c.commit.ensures.stops rests.0 rests.1 rests.2)

pub returns-in-Ok-clause-kept : goal.returns-in-Ok-clause-kept
returns-in-Ok-clause-kept g c before told known decided =
    let rests = (c.settle.ensures.kept before told known c.in-Ok.ensures.decided).0 in
    c.commit.ensures.kept rests.0 rests.1 rests.2 decided

pub returns-in-Err-clause-kept : goal.returns-in-Err-clause-kept
returns-in-Err-clause-kept g c before told known decided = (c.settle.ensures.kept before told known decided).0

pub returns-in-Ok-clause-damaged : goal.returns-in-Ok-clause-damaged
returns-in-Ok-clause-damaged g c =
    let now = side_of g.D.Disk.faults c.commit.new.keeper (g.P.KeptPublisher.states c.commit.new.publisher) (g.A.Hall.tally c.commit.new.hall)
    (g.A.Hall.calls c.commit.new.hall) in
    let between =
    side_of g.D.Disk.faults c.settle.new.keeper (g.P.KeptPublisher.states c.settle.new.publisher) (g.A.Hall.tally c.settle.new.hall)
    (g.A.Hall.calls c.settle.new.hall) in
    ok-way c.commit.result _ _ _
    (λ replies commits before told. commits-undamaged c.args.keeper.now.desk (g.D.Disk.state (disk_of c.commit.new.keeper))
    c.args.command.now
    between now replies.items commits) c.commit.ensures.committed

pub returns-in-Err-clause-damaged : goal.returns-in-Err-clause-damaged
returns-in-Err-clause-damaged g c =
    ok-way c.tell_unsettled.result _ _ _
    (λ replies told before state. unsettled-damaged c.args.keeper.now.desk (g.D.Disk.state (disk_of c.settle.new.keeper)) c.in-Err.reason
    replies.items told (c.in-Err.ensures.damaged before state)) c.tell_unsettled.ensures

pub returns-in-Ok-clause-hangs : goal.returns-in-Ok-clause-hangs
returns-in-Ok-clause-hangs g c =
    hangs_then (g.P.KeptPublisher.states c.args.publisher.now) (g.P.KeptPublisher.states c.settle.new.publisher) (g.P.KeptPublisher.states c.commit.new.publisher) c.args.hangs.now c.settle.new.hangs
    c.commit.new.hangs c.settle.ensures.hangs c.commit.ensures.hangs
