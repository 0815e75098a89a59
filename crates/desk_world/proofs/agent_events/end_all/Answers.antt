use Rattle.std.proofs.lemmas.List.Edits.{map_over_more}
use Rattle.desk_world.specs.Agents.{ended}
use Rattle.desk_world.proofs.agent_events.end_all.Goals as goal

pub loop-entry-preserved : goal.loop-entry-preserved
loop-entry-preserved c =
    rw (c.end_one.ensures, ← c.entry-item.is)
    (map_over_more (ended c.args.run c.args.number c.args.state) c.args.entries.now c.loop-entry.entries
    c.loop-entry.entry-index _ c.loop-entry-test.true c.loop-entry.invariant c.entry-item.is)
