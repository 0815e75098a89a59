use Rattle.std.proofs.Common.{◌≡◌, ◌++◌, take}
use Rattle.std.specs.List.{flat_map}
use Rattle.script_replies.specs.Levels.{pair_text}
use Rattle.script_replies.proofs.levels.append_pairs.Given as goal

-- the pairs so far stand behind what stood there
abbrev pub invariant-loop-pair : goal.invariant-loop-pair
invariant-loop-pair l = l.out ≡ l.fn.out ++ flat_map pair_text (take l.pair-index l.pairs)
