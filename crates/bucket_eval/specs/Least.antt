-- Which policy of a bucket decides a question.
use Rattle.std.specs.Prelude.{◌≡◌, Bool, true, false, not, ◌&&◌, ◌==◌, List, Option, All, filter}
use Rattle.std.specs.declared.cmp.Ordering.{Ordering}
use Rattle.std.specs.Ordering.{on, then_cmp, is_gt}
use Rattle.cynara_keys.specs.Key.{key_matches, key_cmp}
use Rattle.cynara_keys.specs.Minimum.{first_least}
use Rattle.cynara_keys.specs.PolicyResult.{none, result_cmp}
use Rattle.cynara_keys.specs.declared.keys.Policy.{Policy}
use Rattle.cynara_keys.specs.Key.{Question}

-- whether a policy has a say: it matches the question, and its result isn't NONE
abbrev pub counts : Question → Policy → Bool
counts question policy = key_matches policy.key question && not (policy.result.kind == none)

-- policies decide in the order of their results, and then of their keys
abbrev pub decision_cmp : Policy → Policy → Ordering
decision_cmp = then_cmp (on (λ policy. policy.result) result_cmp) (on (λ policy. policy.key) key_cmp)

-- the least of the policies that have a say
abbrev pub least_policy : Question → List Policy → Option Policy
least_policy question policies = first_least decision_cmp (filter (counts question) policies)

-- the policy has a say, and no policy that has a say decides before it
abbrev pub DecidesAmong : Question → List Policy → Policy → Type 0
DecidesAmong question policies policy =
    (counts question policy ≡ true)
    × All (λ other. is_gt (decision_cmp policy other) ≡ false) (filter (counts question) policies)

-- no policy has a say
abbrev pub NoneCounts : Question → List Policy → Type 0
NoneCounts question policies = All (λ policy. counts question policy ≡ false) policies
