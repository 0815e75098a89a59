use Rattle.std.proofs.Common.{◌≡◌, ◌+◌, ◌≤◌, List, length}
use Rattle.text_lines.specs.Lines.{lines_of}
use Rattle.smack_rules.specs.declared.rule.Rule.{Rule}
use Rattle.smack_rules.specs.RuleText.{with_front, rules_from}
use Rattle.smack_rules.proofs.table.refusal_before.Given as goal

-- the lines so far are rules, and those that are left come behind them
abbrev pub invariant-loop-line : goal.invariant-loop-line
invariant-loop-line l = record {
  counted : l.number + length l.rest ≤ l.fn.read + length l.fn.lines;
  taken : (done : List Rule)
      × (with_front done (rules_from (l.number + 1) (lines_of l.rest)) ≡ rules_from (l.fn.read + 1) (lines_of l.fn.lines));
}

abbrev pub decreases-loop-line : goal.decreases-loop-line
decreases-loop-line l = length l.rest
