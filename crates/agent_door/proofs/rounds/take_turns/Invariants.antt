use Rattle.std.proofs.Common.{◌≡◌, Some}
use Rattle.agent_table.specs.declared.table.Asked.{Asked}
use Rattle.wire_fields.specs.declared.operations.Heard.TheVariants.{AtAgent}
use Rattle.door_frames.specs.Hearing.{IsSound}
use Rattle.agent_door.specs.Serving.{agent_side}
use Rattle.agent_door.specs.parts.Talk.{Goes, waiting_since}
use Rattle.agent_door.proofs.rounds.take_turns.Given as goal

-- the question is open still, after so many turns
abbrev pub invariant-loop-turn : goal.invariant-loop-turn
invariant-loop-turn g l =
    (l.feeder.heard ≡ AtAgent)
    × (IsSound l.feeder
    × ((asked : Asked) → asked.number ≡ l.fn.number → Goes l.fn.registration
    (agent_side (g.A.AgentHall.tally l.fn.hall) (g.A.AgentHall.calls l.fn.hall) (g.L.Link.traffic l.fn.link) (g.L.Link.marks l.fn.link)
    (g.L.Link.faults l.fn.link))
    l.fn.feeder (Some (waiting_since asked 0))
    (agent_side (g.A.AgentHall.tally l.hall) (g.A.AgentHall.calls l.hall) (g.L.Link.traffic l.link) (g.L.Link.marks l.link) (g.L.Link.faults l.link))
    l.feeder (Some (waiting_since asked l.turn))))
