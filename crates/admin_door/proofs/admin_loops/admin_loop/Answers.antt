use Rattle.admin_door.specs.Side.{side_of}
use Rattle.admin_door.specs.Serving.{talk_of}
use Rattle.admin_door.specs.Running.{RunsOver}
use Rattle.admin_door.proofs.Adding.{serves-some}
use Rattle.admin_door.proofs.admin_loops.admin_loop.Goals as goal

pub returns-clause-adds : goal.returns-clause-adds
returns-clause-adds g c =
    let served = c.serve-ended.new in
    serves-some
    (talk_of
    (side_of g.D.Disk.faults c.args.keeper.now (g.P.KeptPublisher.states c.args.publisher.now) (g.A.Hall.tally c.args.hall.now) (g.A.Hall.calls c.args.hall.now))
    (g.L.DueLink.traffic c.args.link.now) (g.L.DueLink.marks c.args.link.now) (g.L.DueLink.faults c.args.link.now))
    (talk_of (side_of g.D.Disk.faults served.keeper (g.P.KeptPublisher.states served.publisher) (g.A.Hall.tally served.hall) (g.A.Hall.calls served.hall))
    (g.L.DueLink.traffic served.link) (g.L.DueLink.marks served.link) (g.L.DueLink.faults served.link))
    c.serve-ended.result (RunsOver g.D.Disk.state g.D.Disk.moment g.D.Disk.left_since c.args.keeper.now served.keeper)
    c.serve-ended.ensures.served
