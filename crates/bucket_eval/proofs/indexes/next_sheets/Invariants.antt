use Rattle.std.proofs.Common.{◌≡◌, length}
use Rattle.bucket_eval.specs.parts.Sheets.{EachIsSheet}
use Rattle.bucket_eval.proofs.indexes.next_sheets.Given as goal

-- the sheets of the buckets before this one, and those that are taken over
abbrev pub invariant-loop-at : goal.invariant-loop-at
invariant-loop-at l = record {
  taken : EachIsSheet l.names l.before l.sheets;
  each : EachIsSheet l.names l.buckets l.next.items;
  count : l.at ≡ length l.next.items;
}
