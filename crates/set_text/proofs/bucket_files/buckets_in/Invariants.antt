use Rattle.std.proofs.Common.{◌≡◌, ◌≤◌, [], drop}
use Rattle.set_text.specs.Reading.{buckets_behind, policy_count}
use Rattle.set_text.proofs.bucket_files.buckets_in.Given as goal

-- the buckets so far, and behind them those of the headings that are left, are what the set gives
abbrev pub invariant-loop-heading : goal.invariant-loop-heading
invariant-loop-heading l = record {
  counted : l.earlier ≡ policy_count l.buckets.items;
  few : l.earlier ≤ 65536;
  taken : buckets_behind l.files l.headings l.buckets.items (drop l.heading-index l.headings)
      ≡ buckets_behind l.files l.headings [] l.headings;
}
