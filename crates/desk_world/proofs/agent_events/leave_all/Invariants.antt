use Rattle.std.proofs.Common.{◌≡◌, ◌++◌, take, drop, map}
use Rattle.desk_world.specs.Agents.{once_left}
use Rattle.desk_world.proofs.agent_events.leave_all.Given as goal

abbrev pub invariant-loop-entry : goal.invariant-loop-entry
invariant-loop-entry l =
    l.entries
    ≡ map (once_left l.kind.0) (take l.entry-index l.fn.entries) ++ drop l.entry-index l.fn.entries
