use Rattle.std.proofs.Common.{◌≡◌, ◌+◌, ◌≤◌, List, length}
use Rattle.text_lines.specs.Lines.{lines_of}
use Rattle.smack_rules.specs.declared.rule.Rule.{Rule}
use Rattle.smack_rules.specs.Effective.{effective}
use Rattle.smack_rules.specs.RuleText.{with_front, rules_from, rules_of}
use Rattle.smack_rules.proofs.pair_rules.modes_in_text.Given as goal

-- the modes are those of the lines so far, and the lines that are left come behind them
abbrev pub invariant-loop-line : goal.invariant-loop-line
invariant-loop-line l = record {
  counted : l.number + length l.rest ≤ length l.text;
  taken : (done : List Rule) × (l.modes ≡ effective done l.subject l.object)
      × (with_front done (rules_from (l.number + 1) (lines_of l.rest)) ≡ rules_of l.text);
}

abbrev pub decreases-loop-line : goal.decreases-loop-line
decreases-loop-line l = length l.rest
