use Rattle.std.proofs.Common.{◌≡◌, ap, ◌∙◌, arith}
use Rattle.std.proofs.lemmas.Grind.{common_steps}
use Rattle.rule_templates.specs.Template.{template_of, template_text}
use Rattle.rule_templates.proofs.TextSpelled.{template_of-template_text}
use Rattle.rule_templates.proofs.templates.Template.text.Goals as goal

pub returns-clause-again : goal.returns-clause-again
returns-clause-again c =
    let is : c.loop-line.text.items ≡ template_text c.args.self.now = grind (arith, common_steps) in
    ap template_of is ∙ template_of-template_text c.args.self.now (rw (← c.self.view_is) c.self.invariant)
