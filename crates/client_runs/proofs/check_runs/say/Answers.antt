use Rattle.std.proofs.Common.{ap, ◌∙◌, subst}
use Rattle.desk_ports.specs.Faults.{next_count}
use Rattle.desk_ports.specs.Content.{Appended, AppendedPart}
use Rattle.run_endings.specs.Outside.{sink_seen}
use Rattle.client_runs.proofs.Speaking.{says-written, says-cut, says-none}
use Rattle.client_runs.proofs.check_runs.say.Goals as goal

pub returns-in-Ok-write_all : goal.returns-in-Ok-write_all
returns-in-Ok-write_all g c =
    let before = g.K.Sink.taken c.args.sink.now in
    let after = g.K.Sink.taken c.write_all.new.sink in
    says-written (sink_seen g.K.Sink.taken g.K.Sink.faults c.args.sink.now) (sink_seen g.K.Sink.taken g.K.Sink.faults c.write_all.new.sink)
    c.args.answer.now c.in-Ok.line c.in-Ok.ensures
    (subst (λ text. Appended before text after) c.as_slice.ensures
    (subst (λ taken. Appended taken c.as_slice.result.now after) c.note_answer.ensures.taken c.in-Ok-write_all.ensures.ok))
    (c.in-Ok-write_all.ensures.count ∙ c.note_answer.ensures.count)

pub returns-in-Ok : goal.returns-in-Ok
returns-in-Ok g c =
    let before = g.K.Sink.taken c.args.sink.now in
    let after = g.K.Sink.taken c.write_all.new.sink in
    says-cut (sink_seen g.K.Sink.taken g.K.Sink.faults c.args.sink.now) (sink_seen g.K.Sink.taken g.K.Sink.faults c.write_all.new.sink)
    c.args.answer.now c.in-Ok.line c.in-Ok.ensures
    (subst (λ text. AppendedPart before text after) c.as_slice.ensures
    (subst (λ taken. AppendedPart taken c.as_slice.result.now after) c.note_answer.ensures.taken c.in-Err-write_all.ensures.err))
    (c.in-Err-write_all.ensures.count ∙ ap next_count c.note_answer.ensures.count)

pub returns : goal.returns
returns g c =
    says-none (sink_seen g.K.Sink.taken g.K.Sink.faults c.args.sink.now) (sink_seen g.K.Sink.taken g.K.Sink.faults c.note_answer.new.sink)
    c.note_answer.ensures.taken c.note_answer.ensures.count c.args.answer.now c.in-Err.ending c.in-Err.ensures
