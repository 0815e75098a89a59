-- An outcome in a list of buckets, found by places.
use Rattle.std.specs.Prelude.{◌≡◌, ℕ, Bool, List, Option, Some, None, slice_get, option_and_then, if◌then◌else◌}
use Rattle.std.specs.declared.cmp.Ordering.{Ordering}
use Rattle.std.specs.Ordering.{is_gt, ordering_then}
use Rattle.cynara_keys.specs.Minimum.{lesser}
use Rattle.cynara_keys.specs.Key.{key_cmp}
use Rattle.cynara_keys.specs.PolicyResult.{result_cmp}
use Rattle.std.specs.Option.{option_map}
use Rattle.cynara_keys.specs.declared.keys.Policy.{Policy}
use Rattle.cynara_keys.specs.Key.{Question}
use Rattle.bucket_store.specs.Bucket.{Bucket}
use Rattle.bucket_store.specs.Database.{database_of}
use Rattle.bucket_eval.specs.Evaluation.{Outcome, Contribution, contribution, answer_within}
use Rattle.bucket_eval.specs.declared.answers.Found.{Found}
use Rattle.bucket_eval.specs.declared.nested.Held.{Held}
use Rattle.bucket_eval.specs.declared.nested.Offer.{Offer}

-- the outcome of the bucket's fallback, or of its policy at the place
abbrev pub outcome_in : Option ℕ → Bucket → Option Outcome
outcome_in None bucket = Some (record { result = bucket.fallback; cause = record { bucket = bucket.name; key = None } })
outcome_in (Some place) bucket =
    option_map (λ policy. record {
      result = policy.result;
      cause = record { bucket = bucket.name; key = Some policy.key };
    })
    (slice_get bucket.policies place)

abbrev pub outcome_at : List Bucket → Found → Option Outcome
outcome_at buckets found = option_and_then (outcome_in found.policy) (slice_get buckets found.bucket)

-- the outcome stands at the places, and kind and result are its own
pub record IsHeld (buckets : List Bucket) (outcome : Outcome) (held : Held) : Type 0 where
  pub there : outcome_at buckets held.found ≡ Some outcome
  pub kind : held.found.kind.0 ≡ outcome.result.kind
  pub result : held.result.now ≡ outcome.result

-- the same of a contribution, with the key of the policy that contributes
pub record IsOffer (buckets : List Bucket) (made : Contribution) (offer : Offer) : Type 0 where
  pub there : outcome_at buckets offer.found ≡ Some made.outcome
  pub kind : offer.found.kind.0 ≡ made.outcome.result.kind
  pub result : offer.result.now ≡ made.outcome.result
  pub key : offer.key.now ≡ made.key

-- what is held is this outcome, or there is none
abbrev pub Holds : List Bucket → Option Outcome → Option Held → Type 0
Holds buckets None None = Unit {0}
Holds buckets None (Some held) = ⊥
Holds buckets (Some outcome) None = ⊥
Holds buckets (Some outcome) (Some held) = IsHeld buckets outcome held

-- the offer is this contribution, or there is none
abbrev pub Offers : List Bucket → Option Contribution → Option Offer → Type 0
Offers buckets None None = Unit {0}
Offers buckets None (Some offer) = ⊥
Offers buckets (Some made) None = ⊥
Offers buckets (Some made) (Some offer) = IsOffer buckets made offer

-- what a bucket's policy contributes, by what the buckets below answer within so many steps
abbrev pub offered : List Bucket → Question → Bool → ℕ → List ℕ → Policy → Option Contribution
offered buckets question deep most name =
    contribution (answer_within (database_of buckets) question deep most) deep name question

-- whether the one offer comes after the other, by result and then by key
abbrev pub comes_after : Offer → Offer → Bool
comes_after offer other =
    is_gt (ordering_then (result_cmp offer.result.now other.result.now) (key_cmp offer.key.now other.key.now))

-- the lesser of an offer and another, if there is another, and the first where they tie
abbrev pub chosen : Offer → Option Offer → Offer
chosen offer None = offer
chosen offer (Some other) = if comes_after offer other then other else offer

-- the lesser of two, where both are there, and the first where they tie
abbrev pub combined : {X : Type 0} → (X → X → Ordering) → Option X → Option X → Option X
combined cmp None rest = rest
combined cmp (Some x) rest = Some (lesser cmp x rest)
