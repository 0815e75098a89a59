use Rattle.std.proofs.Common.{◌≡◌, ◌≤◌, length, take, map}
use Rattle.std.specs.List.{filter}
use Rattle.effective_audit.specs.parts.Narrowing.{row_of, concerns}
use Rattle.effective_audit.proofs.narrowing.narrowed_bucket.Given as goal

abbrev pub invariant-loop-policy : goal.invariant-loop-policy
invariant-loop-policy l = record {
  policies : l.policies.items ≡ filter (concerns l.client l.user) (take l.policy-index l.bucket.policies);
  rows : l.columns ≡ map (row_of l.privileges) l.policies.items;
  count : length l.policies.items ≤ l.policy-index;
}
