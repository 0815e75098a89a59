use Rattle.std.proofs.Common.{◌≡◌, ◌≤◌, ◌*◌, take, length}
use Rattle.std.specs.List.{AllZip}
use Rattle.bucket_store.specs.parts.Numbering.{IsRow}
use Rattle.bucket_store.proofs.key_rows.numbered.Given as goal

abbrev pub invariant-loop-policy : goal.invariant-loop-policy
invariant-loop-policy l = record {
  rows : AllZip (IsRow l.names l.filter) (take l.policy-index l.policies) l.columns;
  count : length l.columns ≡ l.policy-index;
  few : length l.names ≤ 3 * l.policy-index;
}
