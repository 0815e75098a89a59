use Rattle.std.proofs.Common.{◌≡◌, ◌≤◌, ◌++◌, drop, length}
use Rattle.bucket_store.specs.parts.Rows.{besides}
use Rattle.bucket_store.proofs.row_copies.policies_besides.Given as goal

abbrev pub invariant-loop-at : goal.invariant-loop-at
invariant-loop-at l = record {
  within : l.next ≤ length l.places;
  -- what was copied, and then what is left
  joins : l.copy.items ++ besides l.at (drop l.next l.places) (drop l.at l.policies) ≡ besides 0 l.places l.policies;
}
