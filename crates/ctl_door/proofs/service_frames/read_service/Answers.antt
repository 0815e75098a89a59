use Rattle.std.proofs.Common.{◌∙◌, Ok}
use Rattle.ctl_door.proofs.Taking.{as_replies}
use Rattle.ctl_door.proofs.Seeing.{took_agent, took_end}
use Rattle.ctl_door.proofs.service_frames.read_service.Goals as goal

pub kinds-preserved : goal.kinds-preserved
kinds-preserved g c =
    let so_far = c.kinds.invariant in
    let start = g.L.Link.traffic c.args.link.now in
    let between = g.L.Link.traffic c.kinds.link in
    let end = g.L.Link.traffic c.read_frame.new.link in (
      took_agent c.kinds.kinds.items c.push.new.list.items c.in-Agent.kind c.in-Ok.framed start between end
          c.in-Agent.ensures c.in_ok-push-in-Agent.ensures so_far.0
          (as_replies c.kinds.feeder (Ok c.in-Ok.framed) between end so_far.1 c.in-Ok.ensures.received),
      c.in-Ok.ensures.again ∙ so_far.1,
      c.read_frame.ensures.ends ∙ so_far.2,
    )

pub returns-in-End-clause-told : goal.returns-in-End-clause-told
returns-in-End-clause-told g c =
    let so_far = c.kinds.invariant in
    let start = g.L.Link.traffic c.args.link.now in
    let between = g.L.Link.traffic c.kinds.link in
    let end = g.L.Link.traffic c.read_frame.new.link in
    took_end c.kinds.kinds.items c.in-End.workers c.in-End.served c.in-Ok.framed start between end c.in-End.ensures so_far.0
    (as_replies c.kinds.feeder (Ok c.in-Ok.framed) between end so_far.1 c.in-Ok.ensures.received)
