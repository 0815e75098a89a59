use Rattle.std.proofs.lemmas.List.Edits.{map_over_more}
use Rattle.desk_world.specs.Commits.{closed}
use Rattle.desk_world.proofs.link_events.close_all.Goals as goal

pub loop-link-preserved : goal.loop-link-preserved
loop-link-preserved c =
    rw (c.close.ensures, ← c.link-item.is)
    (map_over_more closed c.args.links.now c.loop-link.links c.loop-link.link-index _
    c.loop-link-test.true c.loop-link.invariant c.link-item.is)
