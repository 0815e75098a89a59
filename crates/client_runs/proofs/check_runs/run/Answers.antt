use Rattle.run_endings.specs.Outside.{sink_seen}
use Rattle.client_runs.specs.CheckRun.{question_of}
use Rattle.client_runs.specs.AskedOnce.{first_frame}
use Rattle.client_runs.proofs.Counting.{counts}
use Rattle.client_runs.proofs.Completing.{completes-check, not-sink}
use Rattle.client_runs.proofs.Ends.{ends}
use Rattle.client_runs.proofs.check_runs.run.Goals as goal

pub returns-clause-count : goal.returns-clause-count
returns-clause-count g c =
    counts g.N.Link.Link.faults g.N.Link.Link.marks g.N.Link.Link.traffic g.N.Dial.faults g.N.Dial.dials g.N.Dial.given_back
    (first_frame c.args.simple (question_of c.args.asked.now)) c.args.dial.now c.answer_to-answer.new.dial
    c.answer_to-answer.result c.say.ensures.0 c.say.result c.answer_to-answer.ensures c.say.ensures.1

pub returns-clause-ends : goal.returns-clause-ends
returns-clause-ends g c = ends c.answer_to-answer.result c.say.ensures.0 c.say.result c.say.ensures.1

pub returns-clause-completes : goal.returns-clause-completes
returns-clause-completes g c =
    let said = c.say.ensures.0 in
    λ net sink. (
      said,
      completes-check g.N.Dial g.N.Link.Link c.args.asked.now c.args.simple said c.say.result c.args.dial.now c.answer_to-answer.new.dial
          (not-sink c.say.result said (sink_seen g.K.Sink.taken g.K.Sink.faults c.args.sink.now)
          (sink_seen g.K.Sink.taken g.K.Sink.faults c.say.new.sink) c.say.ensures.2 sink) net
          (c.answer_to-answer.result, c.answer_to-answer.ensures, c.say.ensures.1),
      c.say.ensures.2,
    )
