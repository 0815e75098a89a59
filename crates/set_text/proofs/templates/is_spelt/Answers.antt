use Rattle.std.proofs.Common.{[], subst, sym, ap, ◌∙◌}
use Rattle.rule_templates.specs.Template.{with_one_more}
use Rattle.rule_templates.specs.TemplateRead.{RefusesAs}
use Rattle.set_text.proofs.ReadingTemplate.{spelt-is, spelt-not, wrong-line}
use Rattle.set_text.proofs.templates.is_spelt.Goals as goal

pub returns-in-Ok : goal.returns-in-Ok
returns-in-Ok c =
    let line = c.args.line.now in
    c.is_line.ensures
    ∙ spelt-is c.deref.result.now line c.push_line.new.self
    (sym (ap (λ lines. with_one_more lines line) c.empty-template.ensures) ∙ c.in-Ok.ensures)
    (c.deref.ensures.value ∙ c.in_ok-text-in-Ok.ensures.text)

pub returns : goal.returns
returns c =
    let line = c.args.line.now in
    let refusal = c.in-Err.refusal in
    sym (spelt-not line refusal (wrong-line refusal (with_one_more [] line) c.in-None.ensures
    (subst (λ lines. RefusesAs refusal (with_one_more lines line)) c.empty-template.ensures c.in-Err.ensures.1)))
