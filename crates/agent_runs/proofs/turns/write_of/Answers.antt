use Rattle.std.proofs.Common.{List, ℕ, refl, sym, ap, ◌∙◌, subst, ◌≡◌}
use Rattle.desk_ports.proofs.Appends.{Appended-none}
use Rattle.run_endings.specs.Outside.{sink_seen}
use Rattle.line_answers.specs.Answers.{question_text, ruling}
use Rattle.agent_runs.specs.AgentTalk.{line_for}
use Rattle.agent_runs.specs.parts.Turns.{IsWhole, WritesLine}
use Rattle.agent_runs.proofs.Answering.{no_line}
use Rattle.agent_runs.proofs.turns.write_of.Goals as goal

pub returns-in-AgentQuestion : goal.returns-in-AgentQuestion
returns-in-AgentQuestion g c =
    let line : question_text c.in-AgentQuestion.number c.client.result.now c.user.result.now c.privilege.result.now
    (ruling c.kind.result.0 c.as_slice.result.now) ≡ line_for c.args.message.now =
    (λ i. question_text c.in-AgentQuestion.number (c.client.ensures.bytes i) (c.user.ensures.bytes i) (c.privilege.ensures.bytes i)
    (ruling (c.kind.ensures i) ((c.as_slice.ensures.bytes ∙ c.metadata.ensures.metadata) i)))
    ∙ ap line_for (sym c.in-AgentQuestion.is) in
    subst (λ (text : List ℕ). WritesLine text c.write_line.result (sink_seen g.K.Sink.taken g.K.Sink.faults c.args.sink.now)
    (sink_seen g.K.Sink.taken g.K.Sink.faults c.write_line.new.sink)) line c.write_line.ensures

pub returns-in-KindTaken : goal.returns-in-KindTaken
returns-in-KindTaken g c =
    subst (λ (text : List ℕ). WritesLine text c.write_line-in-KindTaken.result (sink_seen g.K.Sink.taken g.K.Sink.faults c.args.sink.now)
    (sink_seen g.K.Sink.taken g.K.Sink.faults c.write_line-in-KindTaken.new.sink)) (sym (ap line_for c.in-KindTaken.is)) c.write_line-in-KindTaken.ensures

pub returns-in_default : goal.returns-in_default
returns-in_default g c =
    let sink = sink_seen g.K.Sink.taken g.K.Sink.faults c.args.sink.now in
    subst (λ (text : List ℕ). IsWhole text sink sink)
    (sym (no_line c.args.message.now (c.in_default.not-AgentQuestion, c.in_default.not-KindTaken)))
    (Appended-none sink.taken, refl)
