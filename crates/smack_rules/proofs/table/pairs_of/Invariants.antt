use Rattle.std.proofs.Common.{◌≡◌, map, take}
use Rattle.smack_rules.specs.parts.Changes.{pair_modes}
use Rattle.smack_rules.proofs.table.pairs_of.Given as goal

abbrev pub invariant-loop-change : goal.invariant-loop-change
invariant-loop-change l = l.pairs.items ≡ map pair_modes (take l.change-index l.changes)
