use Rattle.std.proofs.Common.{◌≡◌, Err, sym, ap, subst, ◌∙◌}
use Rattle.std.proofs.lemmas.Result.{err_from_is_err_and}
use Rattle.smack_rules.specs.declared.rule.LineRefusal.{LineRefusal}
use Rattle.smack_rules.specs.Rule.{line_rule, RefusesLine}
use Rattle.smack_rules.proofs.RuleLines.{line_rule-Form}
use Rattle.smack_rules.proofs.rule.Rule.read_line.Goals as goal

pub returns-in_err-rule : goal.returns-in_err-rule
returns-in_err-rule c =
    let line = c.args.line.now in
    let refusal = c.in_err-rule.field-0.0 in
    let refused : line_rule line ≡ Err refusal = sym c.in_err-rule.ensures in
    let form = line_rule-Form line refusal refused in
    let Refuses : LineRefusal → Type 0 = λ refusal. RefusesLine refusal (line_rule line) in
    let exit = err_from_is_err_and c.from_residual.result c.from_residual.ensures.1 in
    rw (exit.1, exit.2) (subst Refuses (sym form) (refused ∙ ap Err form))
