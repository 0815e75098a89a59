use Rattle.std.proofs.Common.{◌≡◌, take}
use Rattle.desk_world.proofs.copies.log_copy.Given as goal

abbrev pub invariant-loop-known : goal.invariant-loop-known
invariant-loop-known l = l.copies.items ≡ take l.known-index l.log
