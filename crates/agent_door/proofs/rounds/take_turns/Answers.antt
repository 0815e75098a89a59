use Rattle.std.proofs.Common.{◌≡◌, Some, subst, rules}
use Rattle.agent_door.specs.Serving.{agent_side}
use Rattle.agent_door.specs.parts.Talk.{Stands, waiting_since}
use Rattle.agent_door.proofs.Serving.{ends_late}
use Rattle.agent_door.proofs.rounds.take_turns.Goals as goal

pub returns-in-Err-clause-closed : goal.returns-in-Err-clause-closed
returns-in-Err-clause-closed g c asked same start s =
    c.in-Err.ensures.turn asked c.loop-turn.turn same c.loop-turn-test.true start (c.loop-turn.invariant.1.1 asked same start s)

pub returns-clause-closed : goal.returns-clause-closed
returns-clause-closed g c asked same start s =
    let last = agent_side (g.A.AgentHall.tally c.loop-turn.hall) (g.A.AgentHall.calls c.loop-turn.hall) (g.L.Link.traffic c.loop-turn.link)
    (g.L.Link.marks c.loop-turn.link) (g.L.Link.faults c.loop-turn.link) in
    let through : c.loop-turn.turn ≡ 600 = search rules in
    ends_late c.args.registration last c.loop-turn.feeder asked c.loop-turn.invariant.0 start
    (subst (λ count. Stands c.args.registration start last c.loop-turn.feeder (Some (waiting_since asked count))) through
    (c.loop-turn.invariant.1.1 asked same start s))
