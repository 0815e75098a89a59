use Rattle.std.proofs.Common.{refl, sym, subst}
use Rattle.wire_fields.specs.declared.messages.Message.{Message}
use Rattle.agent_runs.specs.LinkSeen.{link_seen}
use Rattle.agent_runs.specs.AgentTalk.{IsRefused}
use Rattle.agent_runs.specs.parts.Hearing.{IsPut}
use Rattle.agent_runs.specs.parts.Turns.{Answers}
use Rattle.agent_runs.proofs.Answering.{answered, passed}
use Rattle.agent_runs.proofs.turns.answer.Goals as goal

pub returns-in-AgentQuestion : goal.returns-in-AgentQuestion
returns-in-AgentQuestion g c = λ sequence.
    let old = c.args.machine.now in
    let new = c.answer-step.new.self in
    let before = link_seen g.L.Link c.args.link.now in
    let after = link_seen g.L.Link c.send.new.link in
    subst (λ (message : Message). IsPut message sequence old.stage → Answers c.args.allowed sequence message c.send.result new before after)
    (sym c.in-AgentQuestion.is)
    (λ put. answered c.args.allowed sequence c.in-AgentQuestion.number c.in-AgentQuestion.question
    c.in-AgentQuestion.result c.answer-step.result old new before after c.send.result put
    c.answer-step.ensures c.send.ensures)

pub returns-in-KindTaken : goal.returns-in-KindTaken
returns-in-KindTaken g c = λ sequence put. (subst IsRefused (sym c.in-KindTaken.is) tt, refl)

pub returns-in_default : goal.returns-in_default
returns-in_default g c = λ sequence put.
    passed c.args.allowed sequence c.args.message.now c.args.machine.now (link_seen g.L.Link c.args.link.now)
    (c.in_default.not-AgentQuestion, c.in_default.not-KindTaken) put
