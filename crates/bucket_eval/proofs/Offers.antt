-- The least contribution of a bucket's policies, shape by shape.
use Rattle.std.proofs.Common.{◌≡◌, ℕ, ◌+◌, ◌≤◌, Bool, true, false, ◌==◌, cond, List, get_or, Option, None, Some, IfSome}
use Rattle.std.proofs.Common.{refl, sym, ap, ◌∙◌, subst}
use Rattle.std.specs.List.{filter_map}
use Rattle.std.specs.List.Sorted.{IsStrictlySortedBy}
use Rattle.std.specs.Ordering.{is_gt, ordering_then}
use Rattle.cynara_keys.specs.Key.{key_cmp, key_matches}
use Rattle.cynara_keys.specs.Minimum.{first_least}
use Rattle.cynara_keys.specs.PolicyResult.{none, result_cmp}
use Rattle.cynara_keys.specs.Key.{Key}
use Rattle.cynara_keys.specs.declared.keys.Policy.{Policy}
use Rattle.cynara_keys.specs.Key.{Question}
use Rattle.bucket_store.specs.Bucket.{Bucket}
use Rattle.bucket_store.specs.Database.{database_of}
use Rattle.bucket_store.specs.Order.{policy_cmp}
use Rattle.bucket_eval.specs.Evaluation.{Outcome, Contribution, contribution_cmp, counted, outcome_of, answer_within}
use Rattle.bucket_eval.specs.parts.Buckets.{combined, IsOffer, Offers, offered, chosen, comes_after}
use Rattle.bucket_eval.specs.parts.Shapes.{FitsAt, in_shape, below_shape}
use Rattle.bucket_eval.specs.declared.nested.Offer.{Offer}
use Rattle.bucket_eval.proofs.Best.{min-after, min-before}
use Rattle.bucket_eval.proofs.ByShape.{IsOwn, if-some, least-of-one, least-of-none}
use Rattle.bucket_eval.proofs.ByShape.{least-below-first, least-below-more, least-below-last}

-- the order of two offers is that of the contributions
after-is : (buckets : List Bucket) (first second : Contribution) (offer other : Offer)
    → IsOffer buckets first offer → IsOffer buckets second other
    → is_gt (ordering_then (result_cmp offer.result.now other.result.now) (key_cmp offer.key.now other.key.now))
    ≡ is_gt (contribution_cmp first second)
after-is buckets first second offer other is other_is =
    λ i. is_gt (ordering_then (result_cmp (is.result i) (other_is.result i)) (key_cmp (is.key i) (other_is.key i)))

only : (buckets : List Bucket) (made rest : Option Contribution) (offer : Offer)
    → Offers buckets made (Some offer) → Offers buckets rest None
    → Offers buckets (combined contribution_cmp made rest) (Some offer)
only buckets None rest offer is rest_is = absurd is
only buckets (Some made) None offer is rest_is = is
only buckets (Some made) (Some least) offer is rest_is = absurd rest_is

after : (buckets : List Bucket) (made rest : Option Contribution) (offer other : Offer)
    → is_gt (ordering_then (result_cmp offer.result.now other.result.now) (key_cmp offer.key.now other.key.now)) ≡ true
    → Offers buckets made (Some offer) → Offers buckets rest (Some other)
    → Offers buckets (combined contribution_cmp made rest) (Some other)
after buckets None rest offer other greater is rest_is = absurd is
after buckets (Some made) None offer other greater is rest_is = absurd rest_is
after buckets (Some made) (Some least) offer other greater is rest_is =
    subst (λ chosen. IsOffer buckets chosen other)
    (sym (min-after (contribution_cmp made least) made least
    (sym (after-is buckets made least offer other is rest_is) ∙ greater)))
    rest_is

instead : (buckets : List Bucket) (made rest : Option Contribution) (offer other : Offer)
    → is_gt (ordering_then (result_cmp offer.result.now other.result.now) (key_cmp offer.key.now other.key.now)) ≡ false
    → Offers buckets made (Some offer) → Offers buckets rest (Some other)
    → Offers buckets (combined contribution_cmp made rest) (Some offer)
instead buckets None rest offer other less is rest_is = absurd is
instead buckets (Some made) None offer other less is rest_is = absurd rest_is
instead buckets (Some made) (Some least) offer other less is rest_is =
    subst (λ chosen. IsOffer buckets chosen offer)
    (sym (min-before (contribution_cmp made least) made least
    (sym (after-is buckets made least offer other is rest_is) ∙ less)))
    is

between : (buckets : List Bucket) (made rest : Option Contribution) (offer other : Offer) (is_after : Bool)
    → comes_after offer other ≡ is_after
    → Offers buckets made (Some offer) → Offers buckets rest (Some other)
    → Offers buckets (combined contribution_cmp made rest) (Some (cond is_after other offer))
between buckets made rest offer other true is offers rest_is = after buckets made rest offer other is offers rest_is
between buckets made rest offer other false is offers rest_is = instead buckets made rest offer other is offers rest_is

pub chosen-offers : (buckets : List Bucket) (made rest : Option Contribution) (offer : Offer) (best : Option Offer)
    → Offers buckets made (Some offer) → Offers buckets rest best
    → Offers buckets (combined contribution_cmp made rest) (Some (chosen offer best))
chosen-offers buckets made rest offer None offers rest_is = only buckets made rest offer offers rest_is
chosen-offers buckets made rest offer (Some other) offers rest_is =
    between buckets made rest offer other (comes_after offer other) refl offers rest_is

-- ---- what policies offer, shape by shape

counted-key : (key : Key) (outcome : Option Outcome) → IfSome (counted key outcome) (λ made. made.key ≡ key)
counted-key key None = tt
counted-key key (Some outcome) = told (outcome.result.kind == none)
  where
    told : (b : Bool)
        → IfSome (cond b None (Some (record { outcome = outcome; key = key })))
        (λ (made : Contribution). made.key ≡ key)
    told true = tt
    told false = refl

pub IsOwn-offered : (buckets : List Bucket) (question : Question) (deep : Bool) (most : ℕ) (name : List ℕ)
    → IsOwn question (offered buckets question deep most name)
IsOwn-offered buckets question deep most name =
    let outcome : Policy → Option Outcome =
    outcome_of (answer_within (database_of buckets) question deep most) deep name in
    record {
      key = λ policy. if-some (key_matches policy.key question) (λ made. made.key ≡ policy.key)
          (counted policy.key (outcome policy)) (counted-key policy.key (outcome policy));
      silent = λ policy other. ap (λ b. cond b (counted policy.key (outcome policy)) None) other;
    }

-- what is offered in a shape, by the one policy that fits
pub offered-one : (buckets : List Bucket) (question : Question) (deep : Bool) (most : ℕ) (name : List ℕ) (shape : ℕ)
    (policies : List Policy) (place : ℕ) (policy : Policy)
    → FitsAt question shape policies (Some place) → policy ≡ get_or policies place policy
    → first_least contribution_cmp (filter_map (in_shape shape (offered buckets question deep most name)) policies)
    ≡ offered buckets question deep most name policy
offered-one buckets question deep most name shape policies place policy at is =
    least-of-one question (offered buckets question deep most name)
    (IsOwn-offered buckets question deep most name) shape policies place policy at is

pub offers-none : (buckets : List Bucket) (question : Question) (deep : Bool) (most : ℕ) (name : List ℕ) (shape : ℕ)
    (policies : List Policy) → FitsAt question shape policies None
    → Offers buckets
    (first_least contribution_cmp (filter_map (in_shape shape (offered buckets question deep most name)) policies)) None
offers-none buckets question deep most name shape policies others =
    subst (λ made. Offers buckets made None)
    (sym (least-of-none question (offered buckets question deep most name)
    (IsOwn-offered buckets question deep most name) shape policies others))
    tt

pub not-offered : (buckets : List Bucket) (made rest : Option Contribution) (best : Option Offer)
    → Offers buckets made None → Offers buckets rest best → Offers buckets (combined contribution_cmp made rest) best
not-offered buckets None rest best offers rest_is = rest_is
not-offered buckets (Some made) rest best offers rest_is = absurd offers

module _ (buckets : List Bucket) (question : Question) (deep : Bool) (most : ℕ) (name : List ℕ)
    (policies : List Policy) where
  -- the least contribution of the policies whose shape is below this one
  abbrev pub least_below : ℕ → Option Contribution
  least_below shape =
      first_least contribution_cmp (filter_map (below_shape shape (offered buckets question deep most name)) policies)

  abbrev least_in : ℕ → Option Contribution
  least_in shape =
      first_least contribution_cmp (filter_map (in_shape shape (offered buckets question deep most name)) policies)

  one-more : (shape : ℕ) → IsStrictlySortedBy policy_cmp policies
      → least_below (shape + 1) ≡ combined contribution_cmp (least_in shape) (least_below shape)
  one-more shape rising =
      least-below-more question (offered buckets question deep most name)
      (IsOwn-offered buckets question deep most name) shape policies rising

  pub least_below-first : Offers buckets (least_below 0) None
  least_below-first =
      subst (λ made. Offers buckets made None)
      (sym (least-below-first question (offered buckets question deep most name)
      (IsOwn-offered buckets question deep most name) policies))
      tt

  pub least_below-some : (shape : ℕ) (offer : Offer) (best : Option Offer) → IsStrictlySortedBy policy_cmp policies
      → Offers buckets (least_in shape) (Some offer) → Offers buckets (least_below shape) best
      → Offers buckets (least_below (shape + 1)) (Some (chosen offer best))
  least_below-some shape offer best rising offers rest =
      subst (λ made. Offers buckets made (Some (chosen offer best))) (sym (one-more shape rising))
      (chosen-offers buckets (least_in shape) (least_below shape) offer best offers rest)

  pub least_below-none : (shape : ℕ) (best : Option Offer) → IsStrictlySortedBy policy_cmp policies
      → Offers buckets (least_in shape) None → Offers buckets (least_below shape) best
      → Offers buckets (least_below (shape + 1)) best
  least_below-none shape best rising offers rest =
      subst (λ made. Offers buckets made best) (sym (one-more shape rising))
      (not-offered buckets (least_in shape) (least_below shape) best offers rest)

  pub least_below-last : (shape : ℕ) (best : Option Offer) → 8 ≤ shape → Offers buckets (least_below shape) best
      → Offers buckets (first_least contribution_cmp (filter_map (offered buckets question deep most name) policies)) best
  least_below-last shape best last offers =
      subst (λ made. Offers buckets made best)
      (least-below-last question (offered buckets question deep most name)
      (IsOwn-offered buckets question deep most name) shape policies last)
      offers
