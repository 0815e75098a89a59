use Rattle.std.proofs.Common.{◌∙◌, ◌≤◌, ◌==◌, Option, ap, sym, subst, refl}
use Rattle.link_ports.specs.LinkMarks.{LinkMarks}
use Rattle.agent_door.specs.Serving.{agent_side}
use Rattle.agent_door.specs.declared.messages.Answer.{Answer}
use Rattle.agent_door.specs.parts.Talk.{HearsAnswer}
use Rattle.agent_door.proofs.Serving.{takes_none, takes_untold, takes_answer, takes_look, looks_untold}
use Rattle.agent_door.proofs.rounds.take_turn.Goals as goal

-- no answer comes
pub returns-in-Err-clause-turn : goal.returns-in-Err-clause-turn
returns-in-Err-clause-turn g c =
    takes_none c.args.registration
    (agent_side (g.A.AgentHall.tally c.args.hall.now) (g.A.AgentHall.calls c.args.hall.now) (g.L.Link.traffic c.args.link.now)
    (g.L.Link.marks c.args.link.now) (g.L.Link.faults c.args.link.now))
    (agent_side (g.A.AgentHall.tally c.args.hall.now) (g.A.AgentHall.calls c.args.hall.now) (g.L.Link.traffic c.answer_in_time.new.link)
    (g.L.Link.marks c.answer_in_time.new.link) (g.L.Link.faults c.answer_in_time.new.link))
    c.args.feeder.now c.answer_in_time.new.self c.args.number c.in-Err.ended c.in-Err.ensures.taken c.requires.side refl refl
    c.answer_in_time.ensures.ends

-- an answer comes
pub returns-in-Ok-Some-clause-turn : goal.returns-in-Ok-Some-clause-turn
returns-in-Ok-Some-clause-turn g c =
    let taken = c.in-Ok-Some.ensures.taken in
    let heard =
    subst (λ (found : Option Answer). HearsAnswer found taken.0 c.args.feeder.now c.answer_in_time.new.self) c.in-Ok-Some.field-0-is taken.2 in
    let handed = c.in_default.ensures.handed in
    takes_answer c.args.registration
    (agent_side (g.A.AgentHall.tally c.args.hall.now) (g.A.AgentHall.calls c.args.hall.now) (g.L.Link.traffic c.args.link.now)
    (g.L.Link.marks c.args.link.now) (g.L.Link.faults c.args.link.now))
    (agent_side (g.A.AgentHall.tally c.hand_in.new.hall) (g.A.AgentHall.calls c.hand_in.new.hall) (g.L.Link.traffic c.hand_in.new.link)
    (g.L.Link.marks c.hand_in.new.link) (g.L.Link.faults c.hand_in.new.link))
    (g.L.Link.traffic c.answer_in_time.new.link) c.args.feeder.now c.answer_in_time.new.self c.args.number c.in-Ok-Some.heard handed.0
    taken.0 _ (ap (λ (answer : Answer). answer.number == c.args.number) c.given-given.ensures) heard taken.1 handed.2.0 handed.1
    (subst (λ count. g.L.Link.faults c.args.link.now ≤ count) (sym handed.2.1) c.in-Ok-Some.ensures.faults)
    (ap (λ (marks : LinkMarks). marks.ends) c.hand_in.ensures.marks ∙ c.answer_in_time.ensures.ends)

pub returns-in-Err-hand_in-clause-turn : goal.returns-in-Err-hand_in-clause-turn
returns-in-Err-hand_in-clause-turn g c =
    let taken = c.in-Ok-Some.ensures.taken in
    let heard =
    subst (λ (found : Option Answer). HearsAnswer found taken.0 c.args.feeder.now c.answer_in_time.new.self) c.in-Ok-Some.field-0-is taken.2 in
    let handed = c.in-Err-hand_in.ensures.handed in
    takes_untold c.args.registration
    (agent_side (g.A.AgentHall.tally c.args.hall.now) (g.A.AgentHall.calls c.args.hall.now) (g.L.Link.traffic c.args.link.now)
    (g.L.Link.marks c.args.link.now) (g.L.Link.faults c.args.link.now))
    (agent_side (g.A.AgentHall.tally c.hand_in.new.hall) (g.A.AgentHall.calls c.hand_in.new.hall) (g.L.Link.traffic c.hand_in.new.link)
    (g.L.Link.marks c.hand_in.new.link) (g.L.Link.faults c.hand_in.new.link))
    (g.L.Link.traffic c.answer_in_time.new.link) c.args.feeder.now c.answer_in_time.new.self c.args.number c.in-Ok-Some.heard handed.0
    c.in-Err-hand_in.ended taken.0 (g.L.Link.faults c.answer_in_time.new.link) heard c.in-Ok-Some.ensures.side handed.2.0
    c.in-Ok-Some.ensures.faults handed.2.1 handed.1 taken.1 handed.2.2
    (ap (λ (marks : LinkMarks). marks.ends) c.hand_in.ensures.marks ∙ c.answer_in_time.ensures.ends)

-- none comes in time
pub returns-in-Ok-clause-turn : goal.returns-in-Ok-clause-turn
returns-in-Ok-clause-turn g c =
    let taken = c.in-Ok-None.ensures.taken in
    let heard =
    subst (λ (found : Option Answer). HearsAnswer found taken.0 c.args.feeder.now c.answer_in_time.new.self) c.in-Ok-None.field-0-is taken.2 in
    let looked = c.in-Ok.ensures.looked in
    takes_look c.args.registration
    (agent_side (g.A.AgentHall.tally c.args.hall.now) (g.A.AgentHall.calls c.args.hall.now) (g.L.Link.traffic c.args.link.now)
    (g.L.Link.marks c.args.link.now) (g.L.Link.faults c.args.link.now))
    (agent_side (g.A.AgentHall.tally c.look.new.hall) (g.A.AgentHall.calls c.look.new.hall) (g.L.Link.traffic c.look.new.link)
    (g.L.Link.marks c.look.new.link) (g.L.Link.faults c.look.new.link))
    (g.L.Link.traffic c.answer_in_time.new.link) c.args.feeder.now c.answer_in_time.new.self c.args.number looked.0 c.in-Ok.is_closed
    taken.0 looked.2.0 heard taken.1 looked.2.1 looked.1
    (subst (λ count. g.L.Link.faults c.args.link.now ≤ count) (sym looked.2.2) c.in-Ok-None.ensures.faults)
    (ap (λ (marks : LinkMarks). marks.ends) c.look.ensures.marks ∙ c.answer_in_time.ensures.ends)

pub returns-in-Err-look-clause-turn : goal.returns-in-Err-look-clause-turn
returns-in-Err-look-clause-turn g c =
    let taken = c.in-Ok-None.ensures.taken in
    let heard =
    subst (λ (found : Option Answer). HearsAnswer found taken.0 c.args.feeder.now c.answer_in_time.new.self) c.in-Ok-None.field-0-is taken.2 in
    let looked = c.in-Err-look.ensures.looked in
    looks_untold c.args.registration
    (agent_side (g.A.AgentHall.tally c.args.hall.now) (g.A.AgentHall.calls c.args.hall.now) (g.L.Link.traffic c.args.link.now)
    (g.L.Link.marks c.args.link.now) (g.L.Link.faults c.args.link.now))
    (agent_side (g.A.AgentHall.tally c.look.new.hall) (g.A.AgentHall.calls c.look.new.hall) (g.L.Link.traffic c.look.new.link)
    (g.L.Link.marks c.look.new.link) (g.L.Link.faults c.look.new.link))
    (g.L.Link.traffic c.answer_in_time.new.link) c.args.feeder.now c.answer_in_time.new.self c.args.number looked.0 c.in-Err-look.ended
    taken.0 (g.L.Link.faults c.answer_in_time.new.link) looked.2.0 heard c.in-Ok-None.ensures.side c.in-Ok-None.ensures.faults
    looked.2.1 looked.1 taken.1 looked.2.2
    (ap (λ (marks : LinkMarks). marks.ends) c.look.ensures.marks ∙ c.answer_in_time.ensures.ends)
