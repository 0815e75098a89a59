use Rattle.std.proofs.Common.{◌++◌, map, take}
use Rattle.smack_rules.specs.parts.Changes.{ChangeAlike, pair_change}
use Rattle.smack_rules.proofs.table.follow_pairs.Given as goal

abbrev pub invariant-loop-pair : goal.invariant-loop-pair
invariant-loop-pair l =
    ChangeAlike l.changes.changes.items (l.initial.changes.changes.items ++ map pair_change (take l.pair-index l.pairs))
