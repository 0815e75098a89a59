use Rattle.std.proofs.Common.{◌≡◌, ◌+◌, ◌≤◌, length}
use Rattle.set_text.specs.Lines.{whole_lines, values_behind}
use Rattle.set_text.specs.Template.{read_template_line, template_lines_of}
use Rattle.set_text.proofs.templates.read_template.Given as goal

-- the lines so far, and behind them what is left, are what the text gives
abbrev pub invariant-loop-rest : goal.invariant-loop-rest
invariant-loop-rest l = record {
  counted : l.number ≡ length l.template + 1;
  few : length l.template ≤ 64;
  taken : values_behind read_template_line l.template (whole_lines l.rest) ≡ template_lines_of l.text;
}

abbrev pub decreases-loop-rest : goal.decreases-loop-rest
decreases-loop-rest l = length l.rest
