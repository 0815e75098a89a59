use Rattle.std.proofs.Common.{◌∙◌, Ok}
use Rattle.ctl_door.proofs.Taking.{as_replies, took_part, took_end}
use Rattle.ctl_door.proofs.frames.read_parts.Goals as goal

pub parts-preserved : goal.parts-preserved
parts-preserved g c =
    let so_far = c.parts.invariant in
    let start = g.L.Link.traffic c.args.link.now in
    let between = g.L.Link.traffic c.parts.link in
    let end = g.L.Link.traffic c.read_frame.new.link in (
      took_part c.parts.parts.items c.push.new.list.items c.in-Part.part c.in-Ok.framed start between end
          c.in-Part.ensures c.in_ok-push-in-Part.ensures so_far.0
          (as_replies c.parts.feeder (Ok c.in-Ok.framed) between end so_far.1 c.in-Ok.ensures.received),
      c.in-Ok.ensures.again ∙ so_far.1,
      c.read_frame.ensures.ends ∙ so_far.2,
    )

pub returns-in-End-clause-told : goal.returns-in-End-clause-told
returns-in-End-clause-told g c =
    let so_far = c.parts.invariant in
    let start = g.L.Link.traffic c.args.link.now in
    let between = g.L.Link.traffic c.parts.link in
    let end = g.L.Link.traffic c.read_frame.new.link in
    took_end c.parts.parts.items c.in-End.commit c.in-Ok.framed start between end c.in-End.ensures so_far.0
    (as_replies c.parts.feeder (Ok c.in-Ok.framed) between end so_far.1 c.in-Ok.ensures.received)
