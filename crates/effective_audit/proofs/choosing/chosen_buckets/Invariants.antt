use Rattle.std.proofs.Common.{◌≡◌, take, map}
use Rattle.effective_audit.specs.parts.Narrowing.{chosen}
use Rattle.effective_audit.proofs.choosing.chosen_buckets.Given as goal

abbrev pub invariant-loop-one : goal.invariant-loop-one
invariant-loop-one l = l.buckets.items ≡ map (chosen l.number) (take l.one-index l.narrow)
