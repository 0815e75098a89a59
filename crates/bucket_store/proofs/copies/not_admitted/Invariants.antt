use Rattle.std.proofs.Common.{◌≡◌, take, not}
use Rattle.std.specs.List.{filter}
use Rattle.cynara_keys.specs.Key.{filter_admits}
use Rattle.cynara_keys.specs.declared.keys.Policy.{Policy}
use Rattle.bucket_store.proofs.copies.not_admitted.Given as goal

abbrev pub invariant-loop-policy : goal.invariant-loop-policy
invariant-loop-policy l =
    l.copy.items ≡ filter (λ (policy : Policy). not (filter_admits l.filter policy.key))
    (take l.policy-index l.policies)
