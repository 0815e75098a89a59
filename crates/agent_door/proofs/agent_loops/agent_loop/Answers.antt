use Rattle.std.proofs.Common.{◌∙◌, [], refl, sym, ap, subst}
use Rattle.agent_table.specs.declared.refusals.RegisterRefusal.{RegisterRefusal}
use Rattle.link_ports.specs.LinkMarks.{LinkMarks}
use Rattle.wire_reading.specs.Stream.{Feeding}
use Rattle.server_hall.specs.Tally.{after_part}
use Rattle.door_frames.proofs.Carrying.{carried_same}
use Rattle.door_frames.specs.declared.endings.Ended.TheVariants.{Stopped, Memory}
use Rattle.agent_door.specs.Serving.{agent_side, Serves, TellsRefusal}
use Rattle.agent_door.proofs.Whole.{none_heard, none_in_place, registers, not_joined, kind_is_taken, table_is_full, parts}
use Rattle.agent_door.proofs.agent_loops.agent_loop.Goals as goal

pub returns-in-Err : goal.returns-in-Err
returns-in-Err g c =
    let heard = c.in-Err.ensures.heard in
    Serves.unregistered
    (none_heard
    (agent_side (g.A.AgentHall.tally c.args.hall.now) (g.A.AgentHall.calls c.args.hall.now) (g.L.Link.traffic c.args.link.now)
    (g.L.Link.marks c.args.link.now)
    (g.L.Link.faults c.args.link.now))
    (agent_side (g.A.AgentHall.tally c.args.hall.now) (g.A.AgentHall.calls c.args.hall.now) (g.L.Link.traffic c.next_frame.new.link)
    (g.L.Link.marks c.next_frame.new.link) (g.L.Link.faults c.next_frame.new.link))
    c.new-feeder.result c.next_frame.new.self c.in-Err.ended heard.0 c.new-feeder.ensures heard.2 c.in-Err.ensures.empty
    c.next_frame.ensures.side
    c.in-Err.ensures.ended refl refl heard.1 c.next_frame.ensures.ends)

pub returns-in-Err-read_registration : goal.returns-in-Err-read_registration
returns-in-Err-read_registration g c =
    let framed = c.in-Ok.ensures.framed in
    Serves.unregistered
    (none_in_place
    (agent_side (g.A.AgentHall.tally c.args.hall.now) (g.A.AgentHall.calls c.args.hall.now) (g.L.Link.traffic c.args.link.now)
    (g.L.Link.marks c.args.link.now)
    (g.L.Link.faults c.args.link.now))
    (agent_side (g.A.AgentHall.tally c.args.hall.now) (g.A.AgentHall.calls c.args.hall.now) (g.L.Link.traffic c.next_frame.new.link)
    (g.L.Link.marks c.next_frame.new.link) (g.L.Link.faults c.next_frame.new.link))
    c.new-feeder.result c.next_frame.new.self c.in-Err-read_registration.ended framed.0 c.in-Ok.framed c.new-feeder.ensures framed.2
    c.next_frame.ensures.side c.in-Err-read_registration.ensures c.in-Ok.ensures.faults refl refl framed.1 c.next_frame.ensures.ends)

pub returns-in-Err-Taken : goal.returns-in-Err-Taken
returns-in-Err-Taken g c =
    let framed = c.in-Ok.ensures.framed in
    let registration = c.in-Ok-read_registration.registered in
    Serves.unjoined
    (kind_is_taken
    (agent_side (g.A.AgentHall.tally c.args.hall.now) (g.A.AgentHall.calls c.args.hall.now) (g.L.Link.traffic c.args.link.now)
    (g.L.Link.marks c.args.link.now)
    (g.L.Link.faults c.args.link.now))
    (agent_side (g.A.AgentHall.tally c.join.new.self) (g.A.AgentHall.calls c.join.new.self) (g.L.Link.traffic c.tell_taken.new.link)
    (g.L.Link.marks c.tell_taken.new.link) (g.L.Link.faults c.tell_taken.new.link))
    c.next_frame.new.self registration c.in-Err-Taken.field-0-0 c.in-Err-Taken.field-0 c.tell_taken.result framed.0
    (g.L.Link.traffic c.next_frame.new.link) (g.L.Link.faults c.next_frame.new.link) c.in-Err-Taken.field-0-is
    (registers framed.0 c.in-Ok.framed registration c.new-feeder.result c.next_frame.new.self c.new-feeder.ensures
    c.in-Ok-read_registration.ensures.0 framed.2)
    (c.next_frame.ensures.side ∙ ap (λ (feeder : Feeding). feeder.heard) c.new-feeder.ensures)
    c.tell_taken.ensures.told c.in-Ok.ensures.faults framed.1 c.in-Err-Taken.ensures.tally c.in-Err-Taken.ensures.calls
    (ap (λ (marks : LinkMarks). marks.ends) c.tell_taken.ensures.marks ∙ c.next_frame.ensures.ends))

pub returns-in-Err-Full : goal.returns-in-Err-Full
returns-in-Err-Full g c =
    let framed = c.in-Ok.ensures.framed in
    let registration = c.in-Ok-read_registration.registered in
    Serves.unjoined
    (table_is_full
    (agent_side (g.A.AgentHall.tally c.args.hall.now) (g.A.AgentHall.calls c.args.hall.now) (g.L.Link.traffic c.args.link.now)
    (g.L.Link.marks c.args.link.now)
    (g.L.Link.faults c.args.link.now))
    (agent_side (g.A.AgentHall.tally c.join.new.self) (g.A.AgentHall.calls c.join.new.self) (g.L.Link.traffic c.tell_taken-in-Err-Full.new.link)
    (g.L.Link.marks c.tell_taken-in-Err-Full.new.link) (g.L.Link.faults c.tell_taken-in-Err-Full.new.link))
    c.next_frame.new.self registration c.in-Err-Full.field-0 c.tell_taken-in-Err-Full.result framed.0
    (g.L.Link.traffic c.next_frame.new.link) (g.L.Link.faults c.next_frame.new.link) c.in-Err-Full.field-0-is
    (registers framed.0 c.in-Ok.framed registration c.new-feeder.result c.next_frame.new.self c.new-feeder.ensures
    c.in-Ok-read_registration.ensures.0 framed.2)
    (c.next_frame.ensures.side ∙ ap (λ (feeder : Feeding). feeder.heard) c.new-feeder.ensures)
    c.tell_taken-in-Err-Full.ensures.told c.in-Ok.ensures.faults framed.1 c.in-Err-Full.ensures.tally c.in-Err-Full.ensures.calls
    (ap (λ (marks : LinkMarks). marks.ends) c.tell_taken-in-Err-Full.ensures.marks ∙ c.next_frame.ensures.ends))

pub returns-in-Err-Stopped : goal.returns-in-Err-Stopped
returns-in-Err-Stopped g c =
    let framed = c.in-Ok.ensures.framed in
    let registration = c.in-Ok-read_registration.registered in
    Serves.unjoined
    (not_joined
    (agent_side (g.A.AgentHall.tally c.args.hall.now) (g.A.AgentHall.calls c.args.hall.now) (g.L.Link.traffic c.args.link.now)
    (g.L.Link.marks c.args.link.now)
    (g.L.Link.faults c.args.link.now))
    (agent_side (g.A.AgentHall.tally c.join.new.self) (g.A.AgentHall.calls c.join.new.self) (g.L.Link.traffic c.next_frame.new.link)
    (g.L.Link.marks c.next_frame.new.link) (g.L.Link.faults c.next_frame.new.link))
    c.next_frame.new.self registration c.in-Err-Stopped.field-0 Stopped framed.0 [] (g.L.Link.traffic c.next_frame.new.link)
    (registers framed.0 c.in-Ok.framed registration c.new-feeder.result c.next_frame.new.self c.new-feeder.ensures
    c.in-Ok-read_registration.ensures.0 framed.2)
    (c.next_frame.ensures.side ∙ ap (λ (feeder : Feeding). feeder.heard) c.new-feeder.ensures)
    (subst (λ (refusal : RegisterRefusal). TellsRefusal registration refusal Stopped []) (sym c.in-Err-Stopped.field-0-is) refl)
    framed.1 (carried_same (g.L.Link.traffic c.next_frame.new.link)) c.in-Err-Stopped.ensures.tally c.in-Err-Stopped.ensures.calls
    c.in-Ok.ensures.faults c.next_frame.ensures.ends)

pub returns-in-Err-Memory : goal.returns-in-Err-Memory
returns-in-Err-Memory g c =
    let framed = c.in-Ok.ensures.framed in
    let registration = c.in-Ok-read_registration.registered in
    Serves.unjoined
    (not_joined
    (agent_side (g.A.AgentHall.tally c.args.hall.now) (g.A.AgentHall.calls c.args.hall.now) (g.L.Link.traffic c.args.link.now)
    (g.L.Link.marks c.args.link.now)
    (g.L.Link.faults c.args.link.now))
    (agent_side (g.A.AgentHall.tally c.join.new.self) (g.A.AgentHall.calls c.join.new.self) (g.L.Link.traffic c.next_frame.new.link)
    (g.L.Link.marks c.next_frame.new.link) (g.L.Link.faults c.next_frame.new.link))
    c.next_frame.new.self registration c.in-Err-Memory.field-0 Memory framed.0 [] (g.L.Link.traffic c.next_frame.new.link)
    (registers framed.0 c.in-Ok.framed registration c.new-feeder.result c.next_frame.new.self c.new-feeder.ensures
    c.in-Ok-read_registration.ensures.0 framed.2)
    (c.next_frame.ensures.side ∙ ap (λ (feeder : Feeding). feeder.heard) c.new-feeder.ensures)
    (subst (λ (refusal : RegisterRefusal). TellsRefusal registration refusal Memory []) (sym c.in-Err-Memory.field-0-is) refl)
    framed.1 (carried_same (g.L.Link.traffic c.next_frame.new.link)) c.in-Err-Memory.ensures.tally c.in-Err-Memory.ensures.calls
    c.in-Ok.ensures.faults c.next_frame.ensures.ends)

pub returns : goal.returns
returns g c =
    let framed = c.in-Ok.ensures.framed in
    let registration = c.in-Ok-read_registration.registered in
    let start = agent_side (g.A.AgentHall.tally c.args.hall.now) (g.A.AgentHall.calls c.args.hall.now) (g.L.Link.traffic c.args.link.now)
    (g.L.Link.marks c.args.link.now) (g.L.Link.faults c.args.link.now) in
    Serves.joined registration
    (agent_side (g.A.AgentHall.tally c.serve-ended.new.hall) (g.A.AgentHall.calls c.serve-ended.new.hall) (g.L.Link.traffic c.serve-ended.new.link)
    (g.L.Link.marks c.serve-ended.new.link) (g.L.Link.faults c.serve-ended.new.link))
    (c.serve-ended.ensures start (record {
      received = framed.0;
      heard = registers framed.0 c.in-Ok.framed registration c.new-feeder.result c.next_frame.new.self c.new-feeder.ensures
          c.in-Ok-read_registration.ensures.0 framed.2;
      carried = framed.1;
      tally = c.in-Ok-join.ensures.tally;
      calls = c.in-Ok-join.ensures.calls;
      faults = c.in-Ok.ensures.faults;
      ends = c.next_frame.ensures.ends;
    }))
    (parts
    (agent_side (g.A.AgentHall.tally c.serve-ended.new.hall) (g.A.AgentHall.calls c.serve-ended.new.hall) (g.L.Link.traffic c.serve-ended.new.link)
    (g.L.Link.marks c.serve-ended.new.link) (g.L.Link.faults c.serve-ended.new.link))
    (after_part registration.kind (g.A.AgentHall.tally c.serve-ended.new.hall)) (g.A.AgentHall.tally c.part.new.self) (g.A.AgentHall.calls c.part.new.self)
    c.part.ensures.tally c.part.ensures.calls)
