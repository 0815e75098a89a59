use Rattle.std.proofs.Common.{◌∙◌, [], refl}
use Rattle.desk_keeper.specs.Keeper.{disk_of}
use Rattle.admin_door.specs.Side.{side_of}
use Rattle.admin_door.specs.Serving.{exchange_of, talk_of}
use Rattle.admin_door.specs.Running.{RunsOver}
use Rattle.admin_door.proofs.Answering.{either-way}
use Rattle.admin_door.proofs.Framing.{goes-answered, goes-refused}
use Rattle.admin_door.proofs.Serving.{stands-more, ends-at, ends-reading}
use Rattle.admin_door.proofs.admin_loops.turn.Goals as goal

pub returns-in-Err-clause-talk : goal.returns-in-Err-clause-talk
returns-in-Err-clause-talk g c first start s =
    let side = side_of g.D.Disk.faults c.args.keeper.now (g.P.KeptPublisher.states c.args.publisher.now) (g.A.Hall.tally c.args.hall.now)
    (g.A.Hall.calls c.args.hall.now) in
    let old = talk_of side (g.L.DueLink.traffic c.args.link.now) (g.L.DueLink.marks c.args.link.now) (g.L.DueLink.faults c.args.link.now) in
    let heard = c.in-Err.ensures.heard in
    ends-reading start old c.args.feeder.now c.next_frame.new.feeder heard.0 (g.L.DueLink.traffic c.next_frame.new.self)
    (g.L.DueLink.marks c.next_frame.new.self) (g.L.DueLink.faults c.next_frame.new.self)
    (RunsOver g.D.Disk.state g.D.Disk.moment g.D.Disk.left_since first c.args.keeper.now) s heard.1 heard.2
    (c.next_frame.ensures.side ∙ c.requires.side) c.in-Err.ensures.empty c.next_frame.ensures.ends c.in-Err.ended c.in-Err.ensures.ended

pub returns-clause-talk : goal.returns-clause-talk
returns-clause-talk g c =
    let told = g.D.Disk.state (disk_of c.args.keeper.now) in
    let keeper = c.args.keeper.now in
    let side = side_of g.D.Disk.faults keeper (g.P.KeptPublisher.states c.args.publisher.now) (g.A.Hall.tally c.args.hall.now) (g.A.Hall.calls c.args.hall.now) in
    let old = talk_of side (g.L.DueLink.traffic c.args.link.now) (g.L.DueLink.marks c.args.link.now) (g.L.DueLink.faults c.args.link.now) in
    let answered = c.answer_frame-outcome.new in
    let now_side =
    side_of g.D.Disk.faults answered.keeper (g.P.KeptPublisher.states answered.publisher) (g.A.Hall.tally answered.hall) (g.A.Hall.calls answered.hall) in
    let now = talk_of now_side (g.L.DueLink.traffic answered.link) (g.L.DueLink.marks answered.link) (g.L.DueLink.faults answered.link) in
    let heard = c.in-Ok.ensures.framed in
    let at_admin = c.next_frame.ensures.side ∙ c.requires.side in
    let framed = c.in-Ok.framed in
    let is = c.answer_frame-outcome.ensures in
    either-way c.answer_frame-outcome.result _ _ _ _
    (λ done whole first start s. stands-more start old c.args.feeder.now c.next_frame.new.feeder heard.0 framed told
    (g.L.DueLink.traffic c.next_frame.new.self) (g.L.DueLink.marks c.next_frame.new.self) (g.L.DueLink.faults c.next_frame.new.self) now
    (RunsOver g.D.Disk.state g.D.Disk.moment g.D.Disk.left_since first keeper)
    (RunsOver g.D.Disk.state g.D.Disk.moment g.D.Disk.left_since first answered.keeper) s heard.1
    heard.2 c.in-Ok.ensures.faults c.next_frame.ensures.ends whole.0 whole.1
    (λ replies answers list runs. goes-answered g.D.Disk.state g.D.Disk.moment g.D.Disk.left_since keeper answered.keeper
    (exchange_of framed told replies) side now_side (g.met.D.Disk.counts_now (disk_of answered.keeper))
    (g.met.D.Disk.only_now (disk_of answered.keeper)) is.stops is.kept is.tells refl refl refl (g.met.D.Disk.touched_only (disk_of keeper))
    refl refl first list runs answers))
    (λ ended ends first start s. ends-at start old c.args.feeder.now c.next_frame.new.feeder heard.0 framed told
    (g.L.DueLink.traffic c.next_frame.new.self) (g.L.DueLink.marks c.next_frame.new.self) (g.L.DueLink.faults c.next_frame.new.self) now
    (RunsOver g.D.Disk.state g.D.Disk.moment g.D.Disk.left_since first keeper)
    (RunsOver g.D.Disk.state g.D.Disk.moment g.D.Disk.left_since first answered.keeper) s heard.1
    heard.2 c.in-Ok.ensures.faults c.next_frame.ensures.ends at_admin ended ends
    (λ replies answers list runs. goes-answered g.D.Disk.state g.D.Disk.moment g.D.Disk.left_since keeper answered.keeper
    (exchange_of framed told replies) side now_side (g.met.D.Disk.counts_now (disk_of answered.keeper))
    (g.met.D.Disk.only_now (disk_of answered.keeper)) is.stops is.kept is.tells refl refl refl (g.met.D.Disk.touched_only (disk_of keeper))
    refl refl first list runs answers)
    (λ refuses list runs. goes-refused g.D.Disk.state g.D.Disk.moment g.D.Disk.left_since keeper answered.keeper
    (exchange_of framed told []) side now_side (g.met.D.Disk.counts_now (disk_of answered.keeper))
    (g.met.D.Disk.only_now (disk_of answered.keeper)) is.stops is.kept is.tells refl refl refl (g.met.D.Disk.touched_only (disk_of keeper))
    refl refl first list runs refl refuses.1))
    is.answered
