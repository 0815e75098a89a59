use Rattle.std.proofs.Common.{◌≡◌, ◌++◌, take}
use Rattle.bucket_store.proofs.merges.append_all.Given as goal

abbrev pub invariant-loop-policy : goal.invariant-loop-policy
invariant-loop-policy l = l.copy.items ≡ l.initial.copy.items ++ take l.policy-index l.policies
