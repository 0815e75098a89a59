use Rattle.std.proofs.Common.{subst}
use Rattle.admin_client.specs.Sending.{with_dial}
use Rattle.run_endings.specs.Outside.{sink_seen}
use Rattle.admin_runs.specs.ReplyLine.{replies_text}
use Rattle.admin_runs.specs.parts.Talk.{WritesText}
use Rattle.admin_runs.proofs.Talking.{talk_answered, talk_unanswered}
use Rattle.admin_runs.proofs.admin_scripts.AdminScript.exchange.Goals as goal

pub returns-in-Ok-clause-sent : goal.returns-in-Ok-clause-sent
returns-in-Ok-clause-sent g c =
    talk_answered g.N.Link.Link.faults g.N.Link.Link.marks g.N.Link.Link.traffic g.N.Dial.faults g.N.Dial.dials g.N.Dial.given_back
    c.args.message.now c.in-Ok.replies.items (with_dial c.args.dial.now c.args.link.now)
    (with_dial c.send.new.dial c.send.new.self)
    (sink_seen g.K.Sink.taken g.K.Sink.faults c.args.sink.now)
    (sink_seen g.K.Sink.taken g.K.Sink.faults c.write_replies.new.sink)
    c.write_replies.result c.in-Ok.ensures
    (subst (λ replies. WritesText (replies_text c.args.message.now replies) (sink_seen g.K.Sink.taken g.K.Sink.faults c.args.sink.now)
    (sink_seen g.K.Sink.taken g.K.Sink.faults c.write_replies.new.sink) c.write_replies.result) c.deref.ensures.value
    c.write_replies.ensures.written)

pub returns-in-Err-clause-sent : goal.returns-in-Err-clause-sent
returns-in-Err-clause-sent g c =
    talk_unanswered g.N.Link.Link.faults g.N.Link.Link.marks g.N.Link.Link.traffic g.N.Dial.faults g.N.Dial.dials g.N.Dial.given_back
    c.args.message.now (with_dial c.args.dial.now c.args.link.now) (with_dial c.send.new.dial c.send.new.self)
    (sink_seen g.K.Sink.taken g.K.Sink.faults c.args.sink.now)
    (sink_seen g.K.Sink.taken g.K.Sink.faults c.note_unanswered.new.sink)
    c.note_unanswered.ensures.taken c.note_unanswered.ensures.count c.in-Err.refusal c.ending_of.result c.ending_of.ensures c.in-Err.ensures
