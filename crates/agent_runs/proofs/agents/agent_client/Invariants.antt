use Rattle.std.proofs.Common.{List}
use Rattle.run_endings.specs.Outside.{sink_seen}
use Rattle.wire_fields.specs.declared.messages.Framed.{Framed}
use Rattle.agent_runs.specs.LinkSeen.{link_seen}
use Rattle.agent_runs.specs.parts.Turns.{Talked}
use Rattle.agent_runs.proofs.agents.agent_client.Given as goal

abbrev pub invariant-pieces : goal.invariant-pieces
invariant-pieces g l =
    (goal.iterator-pieces g).can_next l.iterator' × (goal.iterator-pieces g).is_finite l.iterator'
    × ((messages : List Framed) × Talked l.fn.kind l.fn.allowed messages l.machine l.begun
    (link_seen g.L.Link l.fn.link) (link_seen g.L.Link l.link) (sink_seen g.K.Sink.taken g.K.Sink.faults l.fn.sink)
    (sink_seen g.K.Sink.taken g.K.Sink.faults l.sink))
