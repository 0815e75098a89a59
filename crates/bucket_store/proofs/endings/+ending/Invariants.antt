use Rattle.std.proofs.Common.{◌+◌, ◌*◌, take}
use Rattle.std.specs.List.{AllByRecursion}
use Rattle.cynara_keys.specs.declared.keys.Policy.{Policy}
use Rattle.bucket_store.specs.parts.Ending.{AreEnding, LinkEnds}
use Rattle.bucket_store.proofs.endings.+ending.Given as goal

abbrev pub decreases-bucket_ends : goal.decreases-bucket_ends
decreases-bucket_ends l = 3 * l.most

abbrev pub decreases-policies_end : goal.decreases-policies_end
decreases-policies_end l = 3 * l.most + 2

abbrev pub decreases-link_ends : goal.decreases-link_ends
decreases-link_ends l = 3 * l.most + 1

-- the flags tell the truth, and each policy so far sends on to where walks end
abbrev pub invariant-policies_end-loop-policy : goal.invariant-policies_end-loop-policy
invariant-policies_end-loop-policy l =
    AreEnding l.buckets l.ended
    × AllByRecursion (λ (policy : Policy). LinkEnds l.buckets policy.result) (take l.policy-index l.policies)
