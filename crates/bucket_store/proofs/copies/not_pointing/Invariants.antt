use Rattle.std.proofs.Common.{◌≡◌, take, not}
use Rattle.std.specs.List.{filter}
use Rattle.cynara_keys.specs.declared.keys.Policy.{Policy}
use Rattle.bucket_store.specs.Walk.{points_to}
use Rattle.bucket_store.proofs.copies.not_pointing.Given as goal

abbrev pub invariant-loop-policy : goal.invariant-loop-policy
invariant-loop-policy l =
    l.copy.items ≡ filter (λ (policy : Policy). not (points_to l.name policy)) (take l.policy-index l.policies)
