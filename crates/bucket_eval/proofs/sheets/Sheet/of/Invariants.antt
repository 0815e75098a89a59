use Rattle.bucket_eval.specs.parts.Numbers.{IsTableTo, KeepsNumbers}
use Rattle.bucket_eval.specs.parts.Sheets.{AreFiled, IsShapedTo, drafted_in, places_by}
use Rattle.bucket_eval.proofs.sheets.Sheet.of.Given as goal

-- the policies before this one are filed
abbrev pub invariant-loop-place : goal.invariant-loop-place
invariant-loop-place l = record {
  kept : KeepsNumbers l.initial.names l.names;
  marked : IsTableTo l.names l.bucket.policies (places_by (drafted_in l.draft)) l.place;
  filed : AreFiled l.buckets l.bucket.policies (drafted_in l.draft);
  shaped : IsShapedTo l.bucket.policies l.draft.shapes l.place;
}
