use Rattle.std.proofs.Common.{◌≡◌, take}
use Rattle.rule_templates.specs.Template.{template_text}
use Rattle.rule_templates.proofs.templates.Template.text.Given as goal

-- the text of the lines so far
abbrev pub invariant-loop-line : goal.invariant-loop-line
invariant-loop-line l = l.text.items ≡ template_text (take l.line-index l.line-items)
