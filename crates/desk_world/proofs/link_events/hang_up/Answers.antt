use Rattle.std.proofs.lemmas.List.Edits.{map_over_more}
use Rattle.desk_world.specs.Commits.{hung_up}
use Rattle.desk_world.proofs.link_events.hang_up.Goals as goal

pub loop-link-preserved : goal.loop-link-preserved
loop-link-preserved c =
    rw (c.hang_up_one.ensures, ← c.link-item.is)
    (map_over_more (hung_up c.args.published) c.args.links.now c.loop-link.links c.loop-link.link-index _
    c.loop-link-test.true c.loop-link.invariant c.link-item.is)
