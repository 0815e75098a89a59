use Rattle.std.proofs.Common.{◌≡◌, ◌+◌, ◌≤◌, length}
use Rattle.bucket_store.specs.Refusal.{most_buckets}
use Rattle.set_text.specs.Lines.{whole_lines, values_behind, values_of}
use Rattle.set_text.specs.Buckets.{read_heading}
use Rattle.set_text.proofs.headings.heading_lines.Given as goal

-- the headings so far, and behind them what is left, are what the text gives
abbrev pub invariant-loop-rest : goal.invariant-loop-rest
invariant-loop-rest l = record {
  counted : l.number ≡ length l.headings.items + 1;
  few : length l.headings.items ≤ most_buckets;
  taken : values_behind read_heading l.headings.items (whole_lines l.rest) ≡ values_of read_heading l.text;
}

abbrev pub decreases-loop-rest : goal.decreases-loop-rest
decreases-loop-rest l = length l.rest
