use Rattle.std.proofs.Common.{sym, ◌∙◌}
use Rattle.rule_templates.specs.Template.{with_one_more}
use Rattle.set_text.proofs.ReadingTemplate.{line-put, line-refused, wrong-line}
use Rattle.set_text.proofs.templates.push_line.Goals as goal

pub returns-in-Ok : goal.returns-in-Ok
returns-in-Ok c =
    line-put c.args.template.now c.push_line.new.self c.args.line.now
    (sym c.in-Ok-true.ensures ∙ c.in-Ok-true.field-0-test) c.in-Ok.ensures

pub returns-in-None : goal.returns-in-None
returns-in-None c =
    let before = c.args.template.now in
    let line = c.args.line.now in
    let refusal = c.in-Err-push_line.refusal in
    line-refused before line refusal
    (wrong-line refusal (with_one_more before line) c.in-None.ensures c.in-Err-push_line.ensures.1)
