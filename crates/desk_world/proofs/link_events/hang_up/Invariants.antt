use Rattle.std.proofs.Common.{◌≡◌, ◌++◌, take, drop, map}
use Rattle.desk_world.specs.Commits.{hung_up}
use Rattle.desk_world.proofs.link_events.hang_up.Given as goal

abbrev pub invariant-loop-link : goal.invariant-loop-link
invariant-loop-link l =
    l.links
    ≡ map (hung_up l.published) (take l.link-index l.fn.links) ++ drop l.link-index l.fn.links
