use Rattle.std.proofs.Common.{◌≡◌, ◌+◌, ◌≤◌, List, length}
use Rattle.text_lines.specs.Lines.{lines_of}
use Rattle.rule_templates.specs.declared.lines.TemplateLine.{TemplateLine}
use Rattle.rule_templates.specs.Template.{with_front, template_from, template_of}
use Rattle.rule_templates.proofs.templates.fault_of.Given as goal

-- right lines, and behind them what is left, are what the text means
abbrev pub invariant-loop-line : goal.invariant-loop-line
invariant-loop-line l = record {
  within : l.number ≤ 64;
  taken : (done : List TemplateLine)
      × (with_front done (template_from (l.number + 1) (lines_of l.rest)) ≡ template_of l.text);
}

abbrev pub decreases-loop-line : goal.decreases-loop-line
decreases-loop-line l = length l.rest
