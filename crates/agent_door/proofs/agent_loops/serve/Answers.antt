use Rattle.std.proofs.Common.{ap, refl}
use Rattle.link_ports.specs.LinkMarks.{LinkMarks}
use Rattle.agent_door.specs.Serving.{agent_side}
use Rattle.agent_door.proofs.Serving.{begins, ends_unregistered}
use Rattle.agent_door.proofs.agent_loops.serve.Goals as goal

pub returns-in-Err : goal.returns-in-Err
returns-in-Err g c start s =
    let sent = c.in-Err.ensures.sent in
    ends_unregistered c.args.registered start
    (agent_side (g.A.AgentHall.tally c.args.hall.now) (g.A.AgentHall.calls c.args.hall.now) (g.L.Link.traffic c.args.link.now)
    (g.L.Link.marks c.args.link.now)
    (g.L.Link.faults c.args.link.now))
    (agent_side (g.A.AgentHall.tally c.args.hall.now) (g.A.AgentHall.calls c.args.hall.now) (g.L.Link.traffic c.send.new.link)
    (g.L.Link.marks c.send.new.link)
    (g.L.Link.faults c.send.new.link))
    c.args.feeder.now c.in-Err.ended sent.0 c.requires.side sent.1 refl refl (ap (λ (marks : LinkMarks). marks.ends) c.send.ensures.marks) s

pub loop-init : goal.loop-init
loop-init g c =
    let sent = c.in_default.ensures.sent in (
      tt,
      (
        tt,
        (
          c.requires.side,
          (
            c.requires.sound,
            λ start s. begins c.args.registered start
                (agent_side (g.A.AgentHall.tally c.args.hall.now) (g.A.AgentHall.calls c.args.hall.now) (g.L.Link.traffic c.args.link.now)
                (g.L.Link.marks c.args.link.now) (g.L.Link.faults c.args.link.now))
                (agent_side (g.A.AgentHall.tally c.args.hall.now) (g.A.AgentHall.calls c.args.hall.now) (g.L.Link.traffic c.send.new.link)
                (g.L.Link.marks c.send.new.link) (g.L.Link.faults c.send.new.link))
                c.args.feeder.now sent.0 refl refl sent.1 (ap (λ (marks : LinkMarks). marks.ends) c.send.ensures.marks) s,
          ),
        ),
      ),
    )
