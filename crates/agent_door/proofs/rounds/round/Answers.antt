use Rattle.std.proofs.Common.{◌∙◌, [], ap, inr, refl, arith}
use Rattle.link_ports.specs.LinkMarks.{LinkMarks}
use Rattle.wire_reading.specs.Frame.{spelling}
use Rattle.door_frames.proofs.Carrying.{carried_nothing}
use Rattle.server_hall.specs.declared.refusals.NextRefusal.{NextRefusal}
use Rattle.door_frames.specs.declared.endings.Ended.TheVariants.{Closed, Stopped, Memory}
use Rattle.agent_door.specs.Frame.{question_frame}
use Rattle.agent_door.specs.Serving.{Closes, agent_side, refused_next}
use Rattle.agent_door.proofs.Serving.{ends_for_next, ends_unasked, asks_next, not_stopped, not_memory, not_closed, sent_behind}
use Rattle.agent_door.proofs.Serving.{ends_after_refusal, faults_after_refusal, down_after_left}
use Rattle.agent_door.proofs.rounds.round.Goals as goal

pub returns-in-Err-Stopped-clause-round : goal.returns-in-Err-Stopped-clause-round
returns-in-Err-Stopped-clause-round g c start s =
    let why : NextRefusal = c.in-Err-Stopped.field-0 in
    let least = faults_after_refusal why (g.L.Link.faults c.args.link.now) (g.L.Link.faults c.next.new.link) c.in-Err-Stopped.ensures.faults in
    ends_for_next c.args.registration start
    (agent_side (g.A.AgentHall.tally c.args.hall.now) (g.A.AgentHall.calls c.args.hall.now) (g.L.Link.traffic c.args.link.now)
    (g.L.Link.marks c.args.link.now) (g.L.Link.faults c.args.link.now))
    (agent_side (g.A.AgentHall.tally c.next.new.self) (g.A.AgentHall.calls c.next.new.self) (g.L.Link.traffic c.next.new.link)
    (g.L.Link.marks c.next.new.link) (g.L.Link.faults c.next.new.link))
    c.args.feeder.now Stopped why c.requires.side
    (λ bytes heeded begun. (refl, ap (refused_next c.args.registration.kind) c.in-Err-Stopped.field-0-is, begun))
    refl not_stopped (g.L.Link.faults c.next.new.link, least, refl) c.in-Err-Stopped.ensures.tally c.in-Err-Stopped.ensures.calls
    (carried_nothing (g.L.Link.traffic c.args.link.now) (g.L.Link.traffic c.next.new.link) c.in-Err-Stopped.ensures.kept)
    (ends_after_refusal why (g.L.Link.marks c.args.link.now) (g.L.Link.marks c.next.new.link) c.in-Err-Stopped.ensures.marks) s

pub returns-in-Err-Left-clause-round : goal.returns-in-Err-Left-clause-round
returns-in-Err-Left-clause-round g c start s =
    let why : NextRefusal = c.in-Err-Left.field-0 in
    let least = faults_after_refusal why (g.L.Link.faults c.args.link.now) (g.L.Link.faults c.next.new.link) c.in-Err-Left.ensures.faults in
    ends_for_next c.args.registration start
    (agent_side (g.A.AgentHall.tally c.args.hall.now) (g.A.AgentHall.calls c.args.hall.now) (g.L.Link.traffic c.args.link.now)
    (g.L.Link.marks c.args.link.now) (g.L.Link.faults c.args.link.now))
    (agent_side (g.A.AgentHall.tally c.next.new.self) (g.A.AgentHall.calls c.next.new.self) (g.L.Link.traffic c.next.new.link)
    (g.L.Link.marks c.next.new.link) (g.L.Link.faults c.next.new.link))
    c.args.feeder.now Closed why c.requires.side
    (λ bytes heeded begun. Closes.has_left refl (ap (refused_next c.args.registration.kind) c.in-Err-Left.field-0-is) begun
    (down_after_left why (g.L.Link.marks c.args.link.now) (g.L.Link.marks c.next.new.link) c.in-Err-Left.field-0-is
    c.in-Err-Left.ensures.marks))
    refl not_closed (g.L.Link.faults c.next.new.link, least, refl) c.in-Err-Left.ensures.tally c.in-Err-Left.ensures.calls
    (carried_nothing (g.L.Link.traffic c.args.link.now) (g.L.Link.traffic c.next.new.link) c.in-Err-Left.ensures.kept)
    (ends_after_refusal why (g.L.Link.marks c.args.link.now) (g.L.Link.marks c.next.new.link) c.in-Err-Left.ensures.marks) s

pub returns-in-Err-Memory-clause-round : goal.returns-in-Err-Memory-clause-round
returns-in-Err-Memory-clause-round g c start s =
    let why : NextRefusal = c.in-Err-Memory.field-0 in
    let least = faults_after_refusal why (g.L.Link.faults c.args.link.now) (g.L.Link.faults c.next.new.link) c.in-Err-Memory.ensures.faults in
    ends_for_next c.args.registration start
    (agent_side (g.A.AgentHall.tally c.args.hall.now) (g.A.AgentHall.calls c.args.hall.now) (g.L.Link.traffic c.args.link.now)
    (g.L.Link.marks c.args.link.now) (g.L.Link.faults c.args.link.now))
    (agent_side (g.A.AgentHall.tally c.next.new.self) (g.A.AgentHall.calls c.next.new.self) (g.L.Link.traffic c.next.new.link)
    (g.L.Link.marks c.next.new.link) (g.L.Link.faults c.next.new.link))
    c.args.feeder.now Memory why c.requires.side
    (λ bytes heeded begun. (inr (refl, c.in-Err-Memory.field-0, refl), begun))
    (omega arith) not_memory (g.L.Link.faults c.next.new.link, least, refl) c.in-Err-Memory.ensures.tally c.in-Err-Memory.ensures.calls
    (carried_nothing (g.L.Link.traffic c.args.link.now) (g.L.Link.traffic c.next.new.link) c.in-Err-Memory.ensures.kept)
    (ends_after_refusal why (g.L.Link.marks c.args.link.now) (g.L.Link.marks c.next.new.link) c.in-Err-Memory.ensures.marks) s

-- the question was given and not sent
pub returns-in-Err-clause-round : goal.returns-in-Err-clause-round
returns-in-Err-clause-round g c start s =
    let sent = c.in-Err.ensures.sent in
    let still = c.in-Ok.ensures.faults in
    ends_unasked c.args.registration start
    (agent_side (g.A.AgentHall.tally c.args.hall.now) (g.A.AgentHall.calls c.args.hall.now) (g.L.Link.traffic c.args.link.now)
    (g.L.Link.marks c.args.link.now) (g.L.Link.faults c.args.link.now))
    (agent_side (g.A.AgentHall.tally c.next.new.self) (g.A.AgentHall.calls c.next.new.self) (g.L.Link.traffic c.send_question.new.link)
    (g.L.Link.marks c.send_question.new.link) (g.L.Link.faults c.send_question.new.link))
    c.args.feeder.now c.in-Err.ended c.in-Ok.asked (g.L.Link.faults c.next.new.link) c.requires.side (omega (arith, still)) sent.0
    c.in-Ok.ensures.tally c.in-Ok.ensures.calls
    (sent_behind (g.L.Link.traffic c.args.link.now) (g.L.Link.traffic c.next.new.link) (g.L.Link.traffic c.send_question.new.link) []
    c.in-Ok.ensures.kept sent.1)
    (ap (λ (marks : LinkMarks). marks.ends) (c.send_question.ensures.marks ∙ c.in-Ok.ensures.marks)) s

pub returns-in-Ok-take_turns-clause-round : goal.returns-in-Ok-take_turns-clause-round
returns-in-Ok-take_turns-clause-round g c start s =
    let sent = c.in_default.ensures.sent in
    let still = c.in-Ok.ensures.faults in
    let same = sent.1 in
    c.in-Ok-take_turns.ensures.closed c.in-Ok.asked refl start
    (asks_next c.args.registration start
    (agent_side (g.A.AgentHall.tally c.args.hall.now) (g.A.AgentHall.calls c.args.hall.now) (g.L.Link.traffic c.args.link.now)
    (g.L.Link.marks c.args.link.now) (g.L.Link.faults c.args.link.now))
    (agent_side (g.A.AgentHall.tally c.next.new.self) (g.A.AgentHall.calls c.next.new.self) (g.L.Link.traffic c.send_question.new.link)
    (g.L.Link.marks c.send_question.new.link) (g.L.Link.faults c.send_question.new.link))
    c.args.feeder.now c.in-Ok.asked
    (sent_behind (g.L.Link.traffic c.args.link.now) (g.L.Link.traffic c.next.new.link) (g.L.Link.traffic c.send_question.new.link)
    (spelling (question_frame c.args.registration.kind c.in-Ok.asked)) c.in-Ok.ensures.kept sent.0)
    c.in-Ok.ensures.tally c.in-Ok.ensures.calls (omega (arith, still, same))
    (ap (λ (marks : LinkMarks). marks.ends) (c.send_question.ensures.marks ∙ c.in-Ok.ensures.marks)) s)

pub returns-in-Err-take_turns-clause-round : goal.returns-in-Err-take_turns-clause-round
returns-in-Err-take_turns-clause-round g c start s =
    let sent = c.in_default.ensures.sent in
    let still = c.in-Ok.ensures.faults in
    let same = sent.1 in
    c.in-Err-take_turns.ensures.closed c.in-Ok.asked refl start
    (asks_next c.args.registration start
    (agent_side (g.A.AgentHall.tally c.args.hall.now) (g.A.AgentHall.calls c.args.hall.now) (g.L.Link.traffic c.args.link.now)
    (g.L.Link.marks c.args.link.now) (g.L.Link.faults c.args.link.now))
    (agent_side (g.A.AgentHall.tally c.next.new.self) (g.A.AgentHall.calls c.next.new.self) (g.L.Link.traffic c.send_question.new.link)
    (g.L.Link.marks c.send_question.new.link) (g.L.Link.faults c.send_question.new.link))
    c.args.feeder.now c.in-Ok.asked
    (sent_behind (g.L.Link.traffic c.args.link.now) (g.L.Link.traffic c.next.new.link) (g.L.Link.traffic c.send_question.new.link)
    (spelling (question_frame c.args.registration.kind c.in-Ok.asked)) c.in-Ok.ensures.kept sent.0)
    c.in-Ok.ensures.tally c.in-Ok.ensures.calls (omega (arith, still, same))
    (ap (λ (marks : LinkMarks). marks.ends) (c.send_question.ensures.marks ∙ c.in-Ok.ensures.marks)) s)
