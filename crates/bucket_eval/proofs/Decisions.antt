-- How policies decide.
use Rattle.std.proofs.Common.{◌≡◌, ℕ, ◌≤◌, true, false, List, Option, None, Some, IfSome, IfNone, slice_get}
use Rattle.std.proofs.Common.{sym, subst, arith}
use Rattle.std.specs.List.{All, filter}
use Rattle.std.specs.Cmp.{IsTotalOrder}
use Rattle.std.specs.Ordering.{is_gt}
use Rattle.std.proofs.lemmas.Cmp.{on_total, then_total}
use Rattle.cynara_keys.specs.declared.keys.Policy.{Policy}
use Rattle.cynara_keys.specs.Key.{Question}
use Rattle.cynara_keys.proofs.Order.{result_total, key_total}
use Rattle.bucket_eval.specs.Least.{counts, decision_cmp, least_policy, DecidesAmong, NoneCounts}
use Rattle.bucket_eval.proofs.Best.{IsBest, best_of-counts, best_of-before, best_of-none}

pub decision_total : IsTotalOrder decision_cmp
decision_total =
    then_total (on_total (λ (policy : Policy). policy.result) result_total)
    (on_total (λ (policy : Policy). policy.key) key_total)

-- ---- what decides

-- what decides has a say, and no policy that has a say decides before it
decides-among : (question : Question) (policies : List Policy) (chosen : Option Policy)
    → IfSome chosen (λ policy. counts question policy ≡ true)
    → IfSome chosen (λ policy. All (λ other. is_gt (decision_cmp policy other) ≡ false)
    (filter (counts question) policies))
    → IfSome chosen (DecidesAmong question policies)
decides-among question policies None counted before = tt
decides-among question policies (Some policy) counted before = (counted, before)

pub least_policy-decides : (question : Question) (policies : List Policy)
    → IfSome (least_policy question policies) (DecidesAmong question policies)
least_policy-decides question policies =
    decides-among question policies (least_policy question policies)
    (best_of-counts (counts question) decision_cmp policies) (best_of-before (counts question) decision_total policies)

-- with no place left to look at, the place found is that of the policy that decides among all
whole-found : (question : Question) (policies : List Policy) (best : Option ℕ)
    → IsBest (counts question) decision_cmp policies 0 best
    → IfSome best (λ place. IfSome (slice_get policies place) (DecidesAmong question policies))
    × IfNone best (NoneCounts question policies)
whole-found question policies None best_is = (tt, best_of-none (counts question) decision_cmp policies best_is.decides)
whole-found question policies (Some place) best_is = (
  subst (λ chosen. IfSome chosen (DecidesAmong question policies)) (sym best_is.decides)
      (least_policy-decides question policies),
  tt,
)

pub IsBest-whole : {question : Question} {policies : List Policy} {left : ℕ} {best : Option ℕ} → left ≤ 0
    → IsBest (counts question) decision_cmp policies left best
    → IfSome best (λ place. IfSome (slice_get policies place) (DecidesAmong question policies))
    × IfNone best (NoneCounts question policies)
IsBest-whole {question} {policies} {left} {best} end best_is =
    let start : left ≡ 0 = omega arith in
    whole-found question policies best
    (subst (λ n. IsBest (counts question) decision_cmp policies n best) start best_is)
