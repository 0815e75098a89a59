use Rattle.std.proofs.Common.{◌≡◌, ◌+◌, ◌≤◌, length, true}
use Rattle.std.specs.List.{list_all}
use Rattle.text_lines.specs.Lines.{lines_of}
use Rattle.rule_templates.specs.TemplateLine.{is_kept_line}
use Rattle.rule_templates.specs.Template.{with_front, template_from, template_of}
use Rattle.rule_templates.proofs.templates.Template.read_lines.Given as goal

-- the lines so far, and behind them what is left, are what the text means
abbrev pub invariant-loop-line : goal.invariant-loop-line
invariant-loop-line l = record {
  counted : length l.lines.items ≡ l.number;
  within : l.number ≤ 64;
  kept : list_all is_kept_line l.lines.items ≡ true;
  taken : with_front l.lines.items (template_from (l.number + 1) (lines_of l.rest)) ≡ template_of l.text;
}

abbrev pub decreases-loop-line : goal.decreases-loop-line
decreases-loop-line l = length l.rest
