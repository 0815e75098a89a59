use Rattle.std.proofs.Common.{take, arith, [], ◌∷◌}
use Rattle.std.proofs.lemmas.List.{take_more}
use Rattle.smack_rules.proofs.ChangeLists.{FollowsRules-more, FollowsRules-change}
use Rattle.smack_rules.proofs.table.follow_rules.Goals as goal

pub loop-rule-preserved : goal.loop-rule-preserved
loop-rule-preserved c =
    let rules = c.args.rules.now in
    let at = c.loop-rule.rule-index in
    let first = c.args.changes.now.changes.items in
    let old = c.loop-rule.changes.changes.items in
    let new = c.follow.new.self.changes.items in
    let follows = FollowsRules-change old new c.rule-item.result (rw c.of.ensures at c.in_ok-follow.ensures) in
    rw (take_more rules at c.rule-item.result (omega arith), ← c.rule-item.is)
    (FollowsRules-more first old new (take at rules) (c.rule-item.result ∷ []) c.loop-rule.invariant follows)
