use Rattle.std.proofs.lemmas.List.Edits.{map_over_more}
use Rattle.desk_world.specs.Agents.{once_left}
use Rattle.desk_world.proofs.agent_events.leave_all.Goals as goal

pub loop-entry-preserved : goal.loop-entry-preserved
loop-entry-preserved c =
    rw (c.leave_one.ensures, ← c.entry-item.is)
    (map_over_more (once_left c.args.kind.0) c.args.entries.now c.loop-entry.entries c.loop-entry.entry-index _
    c.loop-entry-test.true c.loop-entry.invariant c.entry-item.is)
