use Rattle.std.proofs.Common.{◌≡◌, ◌++◌, take, drop, map}
use Rattle.desk_world.specs.Commits.{closed}
use Rattle.desk_world.proofs.link_events.close_all.Given as goal

abbrev pub invariant-loop-link : goal.invariant-loop-link
invariant-loop-link l = l.links ≡ map closed (take l.link-index l.fn.links) ++ drop l.link-index l.fn.links
