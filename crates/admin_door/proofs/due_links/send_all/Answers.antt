use Rattle.std.proofs.Common.{rules, ◌≡◌}
use Rattle.admin_door.proofs.Sending.{sent-more, cut-off}
use Rattle.admin_door.proofs.due_links.send_all.Goals as goal

pub returns-in-Err-clause-sent : goal.returns-in-Err-clause-sent
returns-in-Err-clause-sent g c =
    let same : g.L.Link.faults c.loop-reply.link ≡ g.L.Link.faults c.args.link.now = search rules in
    cut-off c.in-Err.ended c.args.sequence c.args.replies.now c.loop-reply.reply-index c.reply-item.result
    (g.L.Link.traffic c.args.link.now) (g.L.Link.traffic c.loop-reply.link) (g.L.Link.traffic c.send_message.new.link)
    (g.L.Link.faults c.args.link.now) (g.L.Link.faults c.loop-reply.link) (g.L.Link.faults c.send_message.new.link)
    c.loop-reply-test.true c.reply-item.is c.loop-reply.invariant.0 same c.in-Err.ensures.unsent
    c.in-Err.ensures.ended

pub loop-reply-preserved : goal.loop-reply-preserved
loop-reply-preserved g c = (
  sent-more c.args.sequence c.args.replies.now c.loop-reply.reply-index c.reply-item.result (g.L.Link.traffic c.args.link.now)
      (g.L.Link.traffic c.loop-reply.link) (g.L.Link.traffic c.send_message.new.link) c.loop-reply-test.true c.reply-item.is
      c.loop-reply.invariant.0 c.in_default.ensures.sent,
  search rules,
  search rules,
)
