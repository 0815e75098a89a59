use Rattle.std.proofs.Common.{◌≡◌, take}
use Rattle.policy_levels.specs.Levels.{levels_among}
use Rattle.policy_levels.proofs.rows.levels_among.Given as goal

abbrev pub invariant-loop-policy : goal.invariant-loop-policy
invariant-loop-policy l = l.rows.items ≡ levels_among (take l.policy-index l.policies)
