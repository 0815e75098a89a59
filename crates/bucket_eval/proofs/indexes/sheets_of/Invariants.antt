use Rattle.std.proofs.Common.{◌≡◌, length}
use Rattle.bucket_eval.specs.parts.Sheets.{EachIsSheet}
use Rattle.bucket_eval.proofs.indexes.sheets_of.Given as goal

-- the sheets of the buckets before this one
abbrev pub invariant-loop-at : goal.invariant-loop-at
invariant-loop-at l = record {
  each : EachIsSheet l.names l.buckets l.sheets.items;
  count : l.at ≡ length l.sheets.items;
}
