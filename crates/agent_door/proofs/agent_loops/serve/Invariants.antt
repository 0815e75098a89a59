use Rattle.std.proofs.Common.{◌≡◌, None}
use Rattle.wire_fields.specs.declared.operations.Heard.TheVariants.{AtAgent}
use Rattle.door_frames.specs.Hearing.{IsSound}
use Rattle.agent_door.specs.Serving.{AgentSide, agent_side}
use Rattle.agent_door.specs.parts.Talk.{HasJoined, Stands}
use Rattle.agent_door.proofs.agent_loops.serve.Given as goal

-- the agent stands so since it joined, and no question is open
abbrev pub invariant-loop : goal.invariant-loop
invariant-loop g l =
    (goal.iterator-loop g).can_next l.iterator'
    × ((goal.iterator-loop g).is_finite l.iterator'
    × ((l.feeder.heard ≡ AtAgent)
    × (IsSound l.feeder
    × ((start : AgentSide) → HasJoined l.fn.registered start
    (agent_side (g.A.AgentHall.tally l.fn.hall) (g.A.AgentHall.calls l.fn.hall) (g.L.Link.traffic l.fn.link) (g.L.Link.marks l.fn.link)
    (g.L.Link.faults l.fn.link))
    l.fn.feeder → Stands l.fn.registered start
    (agent_side (g.A.AgentHall.tally l.hall) (g.A.AgentHall.calls l.hall) (g.L.Link.traffic l.link) (g.L.Link.marks l.link) (g.L.Link.faults l.link))
    l.feeder None))))
