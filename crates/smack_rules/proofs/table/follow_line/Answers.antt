use Rattle.std.proofs.Common.{Result, IsOkAnd, Option, subst}
use Rattle.std.specs.Option.{option_to_list}
use Rattle.smack_rules.specs.declared.rule.Rule.{Rule}
use Rattle.smack_rules.specs.declared.rule.LineRefusal.{LineRefusal}
use Rattle.smack_rules.specs.parts.Changes.{FollowsRules}
use Rattle.smack_rules.proofs.ChangeLists.{FollowsRules-change}
use Rattle.smack_rules.proofs.table.follow_line.Goals as goal

pub returns-in-Ok-clause-followed : goal.returns-in-Ok-clause-followed
returns-in-Ok-clause-followed c =
    let old = c.args.changes.now.changes.items in
    let new = c.follow.new.self.changes.items in
    let Followed : Result (Option Rule) LineRefusal → Type 0 =
    λ line. IsOkAnd line (λ rule. FollowsRules old new (option_to_list rule)) in
    subst Followed (rw c.in-Ok-Some.field-0-is at c.in-Ok-Some.ensures)
    (FollowsRules-change old new c.in-Ok-Some.rule (rw c.change.ensures at c.in-Ok.ensures))
