-- What policies and buckets answer, and what is left of that as contributions.
use Rattle.std.proofs.Common.{◌≡◌, ℕ, Bool, true, cond, List, suc, slice_get, option_and_then, Option, None}
use Rattle.std.proofs.Common.{Some, sym, ap, ◌∙◌, subst}
use Rattle.std.specs.List.{filter_map}
use Rattle.std.specs.List.Sorted.{IsStrictlySortedBy}
use Rattle.cynara_keys.specs.Minimum.{first_least}
use Rattle.cynara_keys.specs.declared.keys.Policy.{Policy}
use Rattle.cynara_keys.specs.Key.{Question}
use Rattle.bucket_store.specs.Bucket.{Bucket}
use Rattle.bucket_store.specs.Database.{database_of}
use Rattle.bucket_store.specs.Order.{bucket_cmp}
use Rattle.bucket_store.specs.Walk.{points, target}
use Rattle.bucket_eval.specs.Evaluation.{Outcome, Contribution, contribution_cmp, decided, outcome_of, fallback_of}
use Rattle.bucket_eval.specs.Evaluation.{answer_within}
use Rattle.bucket_eval.specs.parts.Buckets.{outcome_in, outcome_at, IsHeld, Holds, Offers, offered}
use Rattle.bucket_eval.specs.declared.answers.Found.{Found}
use Rattle.bucket_eval.specs.declared.nested.Held.{Held}
use Rattle.bucket_eval.specs.declared.nested.Offer.{Offer}
use Rattle.bucket_eval.proofs.Buckets.{policies_of-at, fallback_of-at}

-- a policy that points to a bucket and is followed
pub followed-holds : (buckets : List Bucket) (below : List ℕ → Outcome) (deep : Bool) (name : List ℕ) (policy : Policy)
    (held : Held)
    → points policy ≡ true → deep ≡ true → IsHeld buckets (below (target policy)) held
    → Holds buckets (outcome_of below deep name policy) (Some held)
followed-holds buckets below deep name policy held pointing followed is =
    let outcome : Outcome =
    record { result = policy.result; cause = record { bucket = name; key = Some policy.key } } in
    subst (λ b. Holds buckets (cond b (cond deep (Some (below (target policy))) None) (Some outcome)) (Some held))
    (sym pointing)
    (subst (λ b. Holds buckets (cond b (Some (below (target policy))) None) (Some held)) (sym followed) is)

-- ---- what a bucket answers

fallback-held : (buckets : List Bucket) (at : ℕ) (bucket : Bucket) (held : Held) → IsStrictlySortedBy bucket_cmp buckets
    → slice_get buckets at ≡ Some bucket → held.found.kind.0 ≡ bucket.fallback.kind → held.found.bucket ≡ at
    → held.found.policy ≡ None → held.result.now ≡ bucket.fallback
    → IsHeld buckets (fallback_of (database_of buckets) bucket.name) held
fallback-held buckets at bucket held rise is kind of_bucket of_policy result =
    let outcome : Outcome = record { result = bucket.fallback; cause = record { bucket = bucket.name; key = None } } in
    let stands : outcome_at buckets held.found ≡ Some outcome =
    ap (λ k. option_and_then (outcome_in held.found.policy) (slice_get buckets k)) of_bucket
    ∙ ap (option_and_then (outcome_in held.found.policy)) is ∙ ap (λ p. outcome_in p bucket) of_policy in
    subst (λ o. IsHeld buckets o held) (sym (fallback_of-at buckets at bucket rise is))
    (record { there = stands; kind = kind; result = result })

decided-fallback : (buckets : List Bucket) (fallback : Outcome) (least : Option Contribution) (held : Held)
    → Offers buckets least None → IsHeld buckets fallback held → IsHeld buckets (decided fallback least) held
decided-fallback buckets fallback None held offers is = is
decided-fallback buckets fallback (Some made) held offers is = absurd offers

decided-offer : (buckets : List Bucket) (fallback : Outcome) (least : Option Contribution) (offer : Offer) (held : Held)
    → Offers buckets least (Some offer) → held.found ≡ offer.found → held.result.now ≡ offer.result.now
    → IsHeld buckets (decided fallback least) held
decided-offer buckets fallback None offer held offers found result = absurd offers
decided-offer buckets fallback (Some made) offer held offers found result = record {
  there = ap (outcome_at buckets) found ∙ offers.there;
  kind = ap (λ (f : Found). f.kind.0) found ∙ offers.kind;
  result = result ∙ offers.result;
}

-- the least contribution of the bucket's policies
least_of : List Bucket → Question → Bool → ℕ → List ℕ → List Policy → Option Contribution
least_of buckets question deep most name policies =
    first_least contribution_cmp (filter_map (offered buckets question deep most name) policies)

answer-more : (buckets : List Bucket) (question : Question) (deep : Bool) (most at : ℕ) (bucket : Bucket)
    → IsStrictlySortedBy bucket_cmp buckets → slice_get buckets at ≡ Some bucket
    → answer_within (database_of buckets) question deep (suc most) bucket.name
    ≡ decided (fallback_of (database_of buckets) bucket.name)
    (least_of buckets question deep most bucket.name bucket.policies)
unfolding answer_within least_of
answer-more buckets question deep most at bucket rise is =
    ap (λ policies. decided (fallback_of (database_of buckets) bucket.name)
    (first_least contribution_cmp (filter_map (offered buckets question deep most bucket.name) policies)))
    (policies_of-at buckets at bucket rise is)

-- what a bucket answers, by the least contribution of its policies
pub answer-least : (buckets : List Bucket) (question : Question) (deep : Bool) (most at : ℕ) (bucket : Bucket)
    → IsStrictlySortedBy bucket_cmp buckets → slice_get buckets at ≡ Some bucket
    → answer_within (database_of buckets) question deep (suc most) bucket.name
    ≡ decided (fallback_of (database_of buckets) bucket.name)
    (first_least contribution_cmp (filter_map (offered buckets question deep most bucket.name) bucket.policies))
unfolding least_of
answer-least buckets question deep most at bucket rise is = answer-more buckets question deep most at bucket rise is

pub fallback-answers : (buckets : List Bucket) (question : Question) (deep : Bool) (most at : ℕ) (bucket : Bucket)
    (held : Held)
    → IsStrictlySortedBy bucket_cmp buckets
    → slice_get buckets at ≡ Some bucket
    → Offers buckets (first_least contribution_cmp
    (filter_map (offered buckets question deep most bucket.name) bucket.policies)) None
    → held.found.kind.0 ≡ bucket.fallback.kind → held.found.bucket ≡ at
    → held.found.policy ≡ None → held.result.now ≡ bucket.fallback
    → IsHeld buckets (answer_within (database_of buckets) question deep (suc most) bucket.name) held
unfolding least_of
fallback-answers buckets question deep most at bucket held rise is offers kind of_bucket of_policy result =
    subst (λ o. IsHeld buckets o held) (sym (answer-more buckets question deep most at bucket rise is))
    (decided-fallback buckets (fallback_of (database_of buckets) bucket.name)
    (least_of buckets question deep most bucket.name bucket.policies) held offers
    (fallback-held buckets at bucket held rise is kind of_bucket of_policy result))

pub offer-answers : (buckets : List Bucket) (question : Question) (deep : Bool) (most at : ℕ) (bucket : Bucket)
    (held : Held) (offer : Offer)
    → IsStrictlySortedBy bucket_cmp buckets
    → slice_get buckets at ≡ Some bucket
    → Offers buckets (first_least contribution_cmp
    (filter_map (offered buckets question deep most bucket.name) bucket.policies)) (Some offer)
    → held.found ≡ offer.found → held.result.now ≡ offer.result.now
    → IsHeld buckets (answer_within (database_of buckets) question deep (suc most) bucket.name) held
unfolding least_of
offer-answers buckets question deep most at bucket held offer rise is offers found result =
    subst (λ o. IsHeld buckets o held) (sym (answer-more buckets question deep most at bucket rise is))
    (decided-offer buckets (fallback_of (database_of buckets) bucket.name)
    (least_of buckets question deep most bucket.name bucket.policies) offer held offers found result)
