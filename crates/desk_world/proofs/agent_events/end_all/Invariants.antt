use Rattle.std.proofs.Common.{◌≡◌, ◌++◌, take, drop, map}
use Rattle.desk_world.specs.Agents.{ended}
use Rattle.desk_world.proofs.agent_events.end_all.Given as goal

abbrev pub invariant-loop-entry : goal.invariant-loop-entry
invariant-loop-entry l =
    l.entries
    ≡ map (ended l.run l.number l.state) (take l.entry-index l.fn.entries) ++ drop l.entry-index l.fn.entries
