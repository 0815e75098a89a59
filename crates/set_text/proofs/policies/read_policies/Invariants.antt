use Rattle.std.proofs.Common.{◌≡◌, ◌+◌, ◌≤◌, length}
use Rattle.set_text.specs.Lines.{whole_lines, values_behind}
use Rattle.set_text.specs.Buckets.{read_policy, policies_of}
use Rattle.set_text.proofs.policies.read_policies.Given as goal

-- the policies so far, and behind them what is left, are what the text gives
abbrev pub invariant-loop-rest : goal.invariant-loop-rest
invariant-loop-rest l = record {
  counted : l.number ≡ length l.policies.items + 1;
  few : l.earlier + length l.policies.items ≤ 65536;
  taken : values_behind (read_policy l.headings l.earlier) l.policies.items (whole_lines l.rest)
      ≡ policies_of l.headings l.earlier l.text;
}

abbrev pub decreases-loop-rest : goal.decreases-loop-rest
decreases-loop-rest l = length l.rest
