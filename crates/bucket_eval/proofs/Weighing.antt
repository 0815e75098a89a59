-- What a bucket answers, by the contributions of its policies that were weighed.
use Rattle.std.proofs.Common.{◌≡◌, ℕ, ◌+◌, ◌<◌, ◌≤◌, Bool, true, false, cond, suc, List, [], ◌∷◌, length, slice_get}
use Rattle.std.proofs.Common.{get_or, Option, None, Some, option_and_then, refl, sym, ap, ◌∙◌, subst, arith, inl, inr}
use Rattle.std.specs.List.{filter_map, cons_option}
use Rattle.std.specs.List.Sorted.{IsStrictlySortedBy}
use Rattle.std.specs.Option.{option_map}
use Rattle.std.specs.Ordering.{is_gt}
use Rattle.std.proofs.lemmas.Bool.{cases_lt, lt-ltb, le-ltb, ne_eqb}
use Rattle.cynara_keys.specs.Key.{Key, key_matches}
use Rattle.cynara_keys.specs.Minimum.{first_least}
use Rattle.cynara_keys.specs.PolicyResult.{none}
use Rattle.cynara_keys.specs.declared.keys.Policy.{Policy}
use Rattle.bucket_store.specs.Bucket.{Bucket}
use Rattle.bucket_store.specs.Database.{database_of}
use Rattle.bucket_store.specs.Order.{policy_cmp}
use Rattle.bucket_store.specs.Walk.{points, target}
use Rattle.bucket_store.specs.WellFormed.{IsKept}
use Rattle.bucket_eval.specs.Evaluation.{Outcome, Contribution, contribution_cmp, counted, decided, fallback_of, outcome_of}
use Rattle.bucket_eval.specs.declared.deciding.Asking.{Asking}
use Rattle.bucket_eval.specs.declared.deciding.Known.{Known}
use Rattle.bucket_eval.specs.declared.deciding.Weighed.{Weighed}
use Rattle.bucket_eval.specs.parts.Buckets.{combined, outcome_in}
use Rattle.bucket_eval.specs.parts.Deciding.{IsBestOf, IsKnown, IsLeast, IsWeighed, answer_of, offers_of, outcome_followed}
use Rattle.bucket_eval.specs.parts.Shapes.{FitsAt, below_shape, in_shape, shape_of}
use Rattle.bucket_eval.specs.parts.Sheets.{IsGap}
use Rattle.bucket_eval.specs.parts.Slots.{outcome_of_spot, spot_of}
use Rattle.bucket_eval.proofs.Best.{min-after, min-before}
use Rattle.bucket_eval.proofs.Buckets.{fallback_of-at}
use Rattle.bucket_eval.proofs.ByShape.{least-below-first, least-below-last, least-below-more, least-of-none, least-of-one}
use Rattle.bucket_eval.proofs.Depth.{answers-same}
use Rattle.bucket_eval.proofs.Held.{answer-least}
use Rattle.bucket_eval.proofs.Marks.{fits-matches}
use Rattle.bucket_eval.proofs.Offers.{IsOwn-offered}
use Rattle.bucket_eval.proofs.Settled.{ends-at}

-- ---- shapes that are not there

module _ (made : Policy → Option Contribution) (from to : ℕ) where
  below-same : (policy : Policy) → from ≤ to → (from ≤ shape_of policy.key → shape_of policy.key < to → ⊥)
      → below_shape to made policy ≡ below_shape from made policy
  below-same policy order apart = elim (cases_lt (shape_of policy.key) from) [
    | inl less ↦
        ap (λ b. cond b (made policy) None)
        (lt-ltb (shape_of policy.key) to (omega (arith, less, order)) ∙ sym (lt-ltb (shape_of policy.key) from less))
    | inr le ↦ elim (cases_lt (shape_of policy.key) to) [
      | inl less ↦ absurd (apart le less)
      | inr past ↦
          ap (λ b. cond b (made policy) None)
          (le-ltb (shape_of policy.key) to past ∙ sym (le-ltb (shape_of policy.key) from le))
    ]
  ]

  filter_map-skip : (policies : List Policy) → IsGap policies from to
      → filter_map (below_shape to made) policies ≡ filter_map (below_shape from made) policies
  filter_map-skip [] gap = refl
  filter_map-skip (policy ∷ policies) gap =
      let rest : IsGap policies from to =
      record { order = gap.order; between = λ place other there. gap.between (suc place) other there } in
      λ i. cons_option (below-same policy gap.order (gap.between 0 policy refl) i) (filter_map-skip policies rest i)

-- ---- what a policy of the bucket contributes

module _ (asking : Asking) (name : List ℕ) where
  outcome-is : (policy : Policy)
      → outcome_of (answer_of asking) true name policy ≡ Some (outcome_followed asking name policy)
  outcome-is policy = by-case (points policy)
    where
      by-case : (b : Bool)
          → cond b (Some (answer_of asking (target policy)))
          (Some (record { result = policy.result; cause = record { bucket = name; key = Some policy.key } }))
          ≡ Some (cond b (answer_of asking (target policy))
          (record { result = policy.result; cause = record { bucket = name; key = Some policy.key } }))
      by-case true = refl
      by-case false = refl

  matching-offers : (policy : Policy) → key_matches policy.key asking.question.now ≡ true
      → offers_of asking name policy ≡ counted policy.key (Some (outcome_followed asking name policy))
  matching-offers policy matches =
      ap (λ b. cond b (counted policy.key (outcome_of (answer_of asking) true name policy)) None) matches
      ∙ ap (counted policy.key) (outcome-is policy)

  module _ (policies : List Policy) where
    abbrev pub least_below : ℕ → Option Contribution
    least_below shape =
        first_least contribution_cmp (filter_map (below_shape shape (offers_of asking name)) policies)

    pub least-skip : (from to : ℕ) → IsGap policies from to → least_below to ≡ least_below from
    least-skip from to gap =
        ap (first_least contribution_cmp) (filter_map-skip (offers_of asking name) from to policies gap)

    pub least-first : least_below 0 ≡ None
    least-first =
        least-below-first asking.question.now (offers_of asking name)
        (IsOwn-offered asking.buckets.now asking.question.now true (length asking.buckets.now) name) policies

    pub least-last : (shape : ℕ) → 8 ≤ shape
        → least_below shape ≡ first_least contribution_cmp (filter_map (offers_of asking name) policies)
    least-last shape last =
        least-below-last asking.question.now (offers_of asking name)
        (IsOwn-offered asking.buckets.now asking.question.now true (length asking.buckets.now) name) shape policies last

    more : (shape : ℕ) → IsStrictlySortedBy policy_cmp policies
        → least_below (shape + 1)
        ≡ combined contribution_cmp
        (first_least contribution_cmp (filter_map (in_shape shape (offers_of asking name)) policies)) (least_below shape)
    more shape rising =
        least-below-more asking.question.now (offers_of asking name)
        (IsOwn-offered asking.buckets.now asking.question.now true (length asking.buckets.now) name) shape policies rising

    -- no policy of the shape matches
    pub least-silent : (shape : ℕ) → IsStrictlySortedBy policy_cmp policies
        → FitsAt asking.question.now shape policies None → least_below (shape + 1) ≡ least_below shape
    least-silent shape rising fits =
        more shape rising
        ∙ ap (λ made. combined contribution_cmp made (least_below shape))
        (least-of-none asking.question.now (offers_of asking name)
        (IsOwn-offered asking.buckets.now asking.question.now true (length asking.buckets.now) name) shape policies fits)

    -- this one does
    pub least-met : (shape place : ℕ) (policy : Policy) → IsStrictlySortedBy policy_cmp policies
        → FitsAt asking.question.now shape policies (Some place) → policy ≡ get_or policies place policy
        → least_below (shape + 1)
        ≡ combined contribution_cmp (counted policy.key (Some (outcome_followed asking name policy))) (least_below shape)
    least-met shape place policy rising fits is =
        more shape rising
        ∙ ap (λ made. combined contribution_cmp made (least_below shape))
        (least-of-one asking.question.now (offers_of asking name)
        (IsOwn-offered asking.buckets.now asking.question.now true (length asking.buckets.now) name) shape policies place
        policy fits is
        ∙ matching-offers policy (fits-matches asking.question.now shape policies place policy fits is))

-- ---- the lesser of two contributions

pub best-of : (buckets : List Bucket) (policies : List Policy) (least : Option Contribution) (best : Option Weighed)
    → IsLeast buckets policies least best → IsBestOf buckets policies best
best-of buckets policies least None is = tt
best-of buckets policies None (Some weighed) is = absurd is
best-of buckets policies (Some made) (Some weighed) is = record { made = made; is = is }

module _ (buckets : List Bucket) (policies : List Policy) (key : Key) (outcome : Outcome) (known : Known)
    (is : IsKnown buckets outcome known) where
  counted-some : (known.kind ≡ 1 → ⊥) → counted key (Some outcome) ≡ Some (record { outcome = outcome; key = key })
  counted-some kind =
      ap (λ b. cond b None (let c : Contribution = record { outcome = outcome; key = key } in Some c))
      (ne_eqb outcome.result.kind none (λ e. kind (is.kind ∙ e)))

  module _ (place : ℕ) (policy : Policy) (there : slice_get policies place ≡ Some policy) (own : policy.key ≡ key)
      (kind : known.kind ≡ 1 → ⊥) where
    abbrev offer : Weighed
    offer = record { known = known; place = place }

    abbrev made : Contribution
    made = record { outcome = outcome; key = key }

    weighed : IsWeighed buckets policies made offer
    weighed = record { known = is; policy = policy; there = there; key = own }

    pub lesser-first : (least : Option Contribution) → IsLeast buckets policies least None
        → IsLeast buckets policies (combined contribution_cmp (counted key (Some outcome)) least) (Some offer)
    lesser-first None least_is =
        subst (λ some. IsLeast buckets policies (combined contribution_cmp some None) (Some offer)) (sym (counted-some kind))
        weighed
    lesser-first (Some last) least_is = absurd least_is

    pub lesser-after : (least : Option Contribution) (other : Weighed) → IsLeast buckets policies least (Some other)
        → ((last : Contribution) → IsWeighed buckets policies made offer → IsWeighed buckets policies last other
        → true ≡ is_gt (contribution_cmp made last))
        → IsLeast buckets policies (combined contribution_cmp (counted key (Some outcome)) least) (Some other)
    lesser-after None other least_is after = absurd least_is
    lesser-after (Some last) other least_is after =
        subst (λ some. IsLeast buckets policies (combined contribution_cmp some (Some last)) (Some other))
        (sym (counted-some kind))
        (subst (λ chosen. IsWeighed buckets policies chosen other)
        (sym (min-after (contribution_cmp made last) made last (sym (after last weighed least_is)))) least_is)

    pub lesser-before : (least : Option Contribution) (other : Weighed) → IsLeast buckets policies least (Some other)
        → ((last : Contribution) → IsWeighed buckets policies made offer → IsWeighed buckets policies last other
        → false ≡ is_gt (contribution_cmp made last))
        → IsLeast buckets policies (combined contribution_cmp (counted key (Some outcome)) least) (Some offer)
    lesser-before None other least_is before = absurd least_is
    lesser-before (Some last) other least_is before =
        subst (λ some. IsLeast buckets policies (combined contribution_cmp some (Some last)) (Some offer))
        (sym (counted-some kind))
        (subst (λ chosen. IsWeighed buckets policies chosen offer)
        (sym (min-before (contribution_cmp made last) made last (sym (before last weighed least_is)))) weighed)

-- ---- what a bucket answers

module _ (asking : Asking) (at : ℕ) (bucket : Bucket) (kept : IsKept asking.buckets.now)
    (is : slice_get asking.buckets.now at ≡ Some bucket) where
  answer-is : answer_of asking bucket.name
      ≡ decided (fallback_of (database_of asking.buckets.now) bucket.name)
      (first_least contribution_cmp (filter_map (offers_of asking bucket.name) bucket.policies))
  answer-is =
      sym (answers-same (database_of asking.buckets.now) asking.question.now true (length asking.buckets.now)
      (suc (length asking.buckets.now)) bucket.name (ends-at asking.buckets.now at bucket kept is) (omega arith))
      ∙ answer-least asking.buckets.now asking.question.now true (length asking.buckets.now) at bucket kept.names_rise is

  by-least : (least : Option Contribution) (offer : Weighed)
      → IsLeast asking.buckets.now bucket.policies least (Some offer)
      → IsKnown asking.buckets.now (decided (fallback_of (database_of asking.buckets.now) bucket.name) least) offer.known
  by-least None offer least_is = absurd least_is
  by-least (Some own) offer least_is = least_is.known

  pub answers-weighed : (offer : Weighed)
      → IsLeast asking.buckets.now bucket.policies
      (first_least contribution_cmp (filter_map (offers_of asking bucket.name) bucket.policies)) (Some offer)
      → IsKnown asking.buckets.now (answer_of asking bucket.name) offer.known
  answers-weighed offer least_is =
      subst (λ o. IsKnown asking.buckets.now o offer.known) (sym answer-is)
      (by-least (first_least contribution_cmp (filter_map (offers_of asking bucket.name) bucket.policies)) offer least_is)

  by-none : (least : Option Contribution) (known : Known) → IsLeast asking.buckets.now bucket.policies least None
      → IsKnown asking.buckets.now (fallback_of (database_of asking.buckets.now) bucket.name) known
      → IsKnown asking.buckets.now (decided (fallback_of (database_of asking.buckets.now) bucket.name) least) known
  by-none None known least_is known_is = known_is
  by-none (Some own) known least_is known_is = absurd least_is

  fallback-known : (known : Known) → spot_of known.slot ≡ Some (record { bucket = at; policy = None })
      → known.kind ≡ bucket.fallback.kind
      → IsKnown asking.buckets.now (fallback_of (database_of asking.buckets.now) bucket.name) known
  fallback-known known spot kind =
      let outcome : Outcome = record { result = bucket.fallback; cause = record { bucket = bucket.name; key = None } } in
      subst (λ o. IsKnown asking.buckets.now o known)
      (sym (fallback_of-at asking.buckets.now at bucket kept.names_rise is))
      (record {
        there = ap (option_and_then (outcome_of_spot asking.buckets.now)) spot
            ∙ ap (option_and_then (outcome_in None)) is;
        kind = kind;
      })

  pub answers-fallback : (known : Known)
      → IsLeast asking.buckets.now bucket.policies
      (first_least contribution_cmp (filter_map (offers_of asking bucket.name) bucket.policies)) None
      → spot_of known.slot ≡ Some (record { bucket = at; policy = None }) → known.kind ≡ bucket.fallback.kind
      → IsKnown asking.buckets.now (answer_of asking bucket.name) known
  answers-fallback known least_is spot kind =
      subst (λ o. IsKnown asking.buckets.now o known) (sym answer-is)
      (by-none (first_least contribution_cmp (filter_map (offers_of asking bucket.name) bucket.policies)) known least_is
      (fallback-known known spot kind))

  -- ---- what a policy answers

  pub own-known : (place : ℕ) (policy : Policy) (known : Known) → points policy ≡ false
      → slice_get bucket.policies place ≡ Some policy
      → spot_of known.slot ≡ Some (record { bucket = at; policy = Some place }) → known.kind ≡ policy.result.kind
      → IsKnown asking.buckets.now (outcome_followed asking bucket.name policy) known
  own-known place policy known apart there spot kind =
      let outcome : Policy → Outcome = λ p. record {
        result = p.result;
        cause = record { bucket = bucket.name; key = Some p.key };
      } in
      subst (λ b. IsKnown asking.buckets.now (cond b (answer_of asking (target policy)) (outcome policy)) known) (sym apart)
      (record {
        there = ap (option_and_then (outcome_of_spot asking.buckets.now)) spot
            ∙ ap (option_and_then (outcome_in (Some place))) is ∙ ap (option_map outcome) there;
        kind = kind;
      })

  pub target-known : (policy : Policy) (other : Bucket) (known : Known) → points policy ≡ true
      → other.name ≡ target policy → IsKnown asking.buckets.now (answer_of asking other.name) known
      → IsKnown asking.buckets.now (outcome_followed asking bucket.name policy) known
  target-known policy other known points name known_is =
      let outcome : Outcome = record {
        result = policy.result;
        cause = record { bucket = bucket.name; key = Some policy.key };
      } in
      subst (λ b. IsKnown asking.buckets.now (cond b (answer_of asking (target policy)) outcome) known) (sym points)
      (subst (λ n. IsKnown asking.buckets.now (answer_of asking n) known) name known_is)
