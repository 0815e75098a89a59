use Rattle.std.proofs.Common.{◌≡◌, take}
use Rattle.desk_world.proofs.copies.asks_copy.Given as goal

abbrev pub invariant-loop-asked : goal.invariant-loop-asked
invariant-loop-asked l = l.copies.items ≡ take l.asked-index l.asks
