use Rattle.std.proofs.Common.{◌≡◌, take}
use Rattle.bucket_store.proofs.copies.all_policies.Given as goal

abbrev pub invariant-loop-policy : goal.invariant-loop-policy
invariant-loop-policy l = l.copy.items ≡ take l.policy-index l.policies
