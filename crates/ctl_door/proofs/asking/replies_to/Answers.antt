use Rattle.std.proofs.Common.{Ok, Err, refl, ap}
use Rattle.admin_client.specs.Sending.{with_dial}
use Rattle.ctl_door.proofs.Sent.{hears}
use Rattle.ctl_door.proofs.asking.replies_to.Goals as goal

pub returns-in-Ok : goal.returns-in-Ok
returns-in-Ok g c = (
  Ok c.in-Ok.replies.items,
  hears g.N.Link.Link.faults g.N.Link.Link.marks g.N.Link.Link.traffic g.N.Dial.faults g.N.Dial.dials g.N.Dial.given_back
      c.args.message.now (Ok c.in-Ok.replies.items) c.new-client.result
      (with_dial c.send-replies.new.dial c.send-replies.new.self) c.args.dial.now c.leave.new.dial
      c.new-client.ensures c.in-Ok.ensures c.leave.ensures.gives,
  refl,
)

pub returns : goal.returns
returns g c = (
  Err c.in-Err.refusal,
  hears g.N.Link.Link.faults g.N.Link.Link.marks g.N.Link.Link.traffic g.N.Dial.faults g.N.Dial.dials g.N.Dial.given_back
      c.args.message.now (Err c.in-Err.refusal) c.new-client.result
      (with_dial c.send-replies.new.dial c.send-replies.new.self) c.args.dial.now c.leave.new.dial
      c.new-client.ensures c.in-Err.ensures c.leave.ensures.gives,
  ap Err c.of_client.ensures,
)
