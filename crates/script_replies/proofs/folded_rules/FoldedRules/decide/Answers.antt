use Rattle.std.proofs.Common.{◌≡◌, true, List, sym, subst, ◌∙◌}
use Rattle.smack_rules.specs.declared.rule.Rule.{Rule}
use Rattle.script_replies.specs.parts.Plain.{are_plain}
use Rattle.script_replies.proofs.Plain.{rules-plain}
use Rattle.script_replies.proofs.folded_rules.FoldedRules.decide.Goals as goal

pub decide_behind-decision-requires-clause-plain : goal.decide_behind-decision-requires-clause-plain
decide_behind-decision-requires-clause-plain c =
    subst (λ (given : List Rule). are_plain given ≡ true) (sym (c.deref.ensures.value ∙ c.in_ok-given.ensures))
    (rules-plain c.args.desk.now.registry c.args.shares.now)
