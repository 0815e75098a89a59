use Rattle.std.proofs.Common.{rules}
use Rattle.socket_net.proofs.Appending.{appended_more}
use Rattle.socket_net.proofs.stays.Stay.send_since.Goals as goal

pub loop-preserved : goal.loop-preserved
loop-preserved g c = record {
  within = search rules;
  sent =
      appended_more (g.W.Write.contents c.args.stream.now) (g.W.Write.contents c.loop.stream)
      (g.W.Write.contents c.send_part.new.stream) c.args.from.now c.loop.done c.in_ok-done.field-0
      c.loop.invariant.sent c.in_ok-done.ensures.sent;
}
