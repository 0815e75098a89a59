use Rattle.std.proofs.Common.{take}
use Rattle.smack_rules.specs.parts.Changes.{FollowsRules}
use Rattle.smack_rules.proofs.table.follow_rules.Given as goal

abbrev pub invariant-loop-rule : goal.invariant-loop-rule
invariant-loop-rule l = FollowsRules l.initial.changes.changes.items l.changes.changes.items (take l.rule-index l.rules)
