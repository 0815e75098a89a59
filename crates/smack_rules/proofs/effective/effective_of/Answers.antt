use Rattle.std.proofs.Common.{sym, ap, ◌∙◌, ◌∷◌, ◌+◌, drop}
use Rattle.std.proofs.lemmas.List.{drop_more}
use Rattle.smack_rules.specs.Effective.{effective_from}
use Rattle.smack_rules.proofs.RuleLists.{effective_from-cons}
use Rattle.smack_rules.proofs.effective.effective_of.Goals as goal

pub loop-rule-preserved : goal.loop-rule-preserved
loop-rule-preserved c =
    let later = c.from_last_set.result.1.now in
    let at = c.loop-rule.rule-index in
    let rest = drop (at + 1) later in
    let s = c.args.subject.now in
    let o = c.args.object.now in
    ap (λ m. effective_from m rest s o) c.changed_by-modes.ensures
    ∙ sym (effective_from-cons c.loop-rule.modes c.rule-item.result rest s o)
    ∙ ap (λ rule. effective_from c.loop-rule.modes (rule ∷ rest) s o) c.rule-item.is
    ∙ ap (λ rules. effective_from c.loop-rule.modes rules s o) (sym (drop_more later at c.rule-item.result c.loop-rule-test.true))
    ∙ c.loop-rule.invariant
