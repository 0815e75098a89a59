-- The search for the least contribution, from the last policy of a bucket to its first.
use Rattle.std.proofs.Common.{◌≡◌, ℕ, zero, suc, ◌+◌, ◌-◌, ◌<◌, ◌≤◌, false, List, [], ◌∷◌, length, drop, get_or, Option, None, Some, inl, inr, refl, sym, ap, ◌∙◌, subst, arith}
use Rattle.std.specs.List.{filter_map}
use Rattle.std.proofs.lemmas.List.{at_drop_more}
use Rattle.cynara_keys.specs.Minimum.{first_least}
use Rattle.cynara_keys.specs.declared.keys.Policy.{Policy}
use Rattle.cynara_keys.specs.Key.{Question}
use Rattle.bucket_store.specs.Bucket.{Bucket}
use Rattle.bucket_eval.specs.Evaluation.{Contribution, contribution_cmp}
use Rattle.bucket_eval.specs.parts.Buckets.{combined, Offers, chosen}
use Rattle.bucket_eval.specs.parts.Windows.{FailsOutside, matches}
use Rattle.bucket_eval.specs.declared.windows.Window.{Window}
use Rattle.bucket_eval.specs.declared.nested.Offer.{Offer}
use Rattle.bucket_eval.proofs.ByShape.{first_least-cons_option}
use Rattle.bucket_eval.proofs.Offers.{chosen-offers, not-offered}

drop-past : {X : Type 0} (xs : List X) (at : ℕ) → length xs ≤ at → drop at xs ≡ []
drop-past [] zero past = refl
drop-past [] (suc at) past = refl
drop-past (x ∷ xs) zero past = let no : ⊥ = omega arith in absurd no
drop-past (x ∷ xs) (suc at) past = drop-past xs at (omega arith)

-- an element of a list that has one at a place
some-of : {X : Type 0} (xs : List X) (at : ℕ) → at < length xs → X
some-of [] at within = let no : ⊥ = omega arith in absurd no
some-of (x ∷ xs) at within = x

get_or-again : {X : Type 0} (xs : List X) (at : ℕ) (d : X) → get_or xs at d ≡ get_or xs at (get_or xs at d)
get_or-again [] at d = refl
get_or-again (x ∷ xs) zero d = refl
get_or-again (x ∷ xs) (suc at) d = get_or-again xs at d

module _ (buckets : List Bucket) (offered : Policy → Option Contribution) where
  -- the least contribution of the policies from a place on
  abbrev pub least_from : List Policy → ℕ → Option Contribution
  least_from policies at = first_least contribution_cmp (filter_map offered (drop at policies))

  least_from-more : (policies : List Policy) (at : ℕ) (policy : Policy) → at < length policies
      → policy ≡ get_or policies at policy
      → least_from policies at ≡ combined contribution_cmp (offered policy) (least_from policies (at + 1))
  least_from-more policies at policy lt is =
      at_drop_more (λ others. first_least contribution_cmp (filter_map offered others)) policies at policy lt
      ∙ ap (λ other. first_least contribution_cmp (filter_map offered (other ∷ drop (at + 1) policies))) (sym is)
      ∙ first_least-cons_option contribution_cmp (offered policy) (filter_map offered (drop (at + 1) policies))

  more : (policies : List Policy) (at : ℕ) (policy : Policy) (best : Option Offer) → at < length policies
      → policy ≡ get_or policies at policy
      → Offers buckets (combined contribution_cmp (offered policy) (least_from policies (at + 1))) best
      → Offers buckets (least_from policies at) best
  more policies at policy best lt is offers =
      subst (λ least. Offers buckets least best) (sym (least_from-more policies at policy lt is)) offers

  -- with one place fewer to look at
  pub least_from-down : (policies : List Policy) (left : ℕ) (best alike : Option Offer) → 0 < left → best ≡ alike
      → Offers buckets (least_from policies left) best → Offers buckets (least_from policies (left - 1 + 1)) alike
  least_from-down policies left best alike some is offers =
      let above : left ≡ left - 1 + 1 = omega arith in
      subst (λ o. Offers buckets (least_from policies (left - 1 + 1)) o) is
      (subst (λ n. Offers buckets (least_from policies n) best) above offers)

  pub least_from-offer : (policies : List Policy) (at : ℕ) (policy : Policy) (offer : Offer) (best : Option Offer)
      → at < length policies → policy ≡ get_or policies at policy → Offers buckets (offered policy) (Some offer)
      → Offers buckets (least_from policies (at + 1)) best
      → Offers buckets (least_from policies at) (Some (chosen offer best))
  least_from-offer policies at policy offer best lt is made rest =
      more policies at policy (Some (chosen offer best)) lt is
      (chosen-offers buckets (offered policy) (least_from policies (at + 1)) offer best made rest)

  pub least_from-silent : (policies : List Policy) (at : ℕ) (policy : Policy) (best : Option Offer)
      → at < length policies → policy ≡ get_or policies at policy → Offers buckets (offered policy) None
      → Offers buckets (least_from policies (at + 1)) best
      → Offers buckets (least_from policies at) best
  least_from-silent policies at policy best lt is made rest =
      more policies at policy best lt is
      (not-offered buckets (offered policy) (least_from policies (at + 1)) best made rest)

  -- ---- places at which nothing is offered

  least_from-skip : (policies : List Policy) (at count : ℕ) → at + count ≤ length policies
      → ((place : ℕ) (d : Policy) → at ≤ place → place < at + count → offered (get_or policies place d) ≡ None)
      → least_from policies at ≡ least_from policies (at + count)
  least_from-skip policies at zero within silent = ap (least_from policies) (omega arith)
  least_from-skip policies at (suc count) within silent =
      let first = some-of policies at (omega arith) in
      least_from-more policies at (get_or policies at first) (omega arith) (get_or-again policies at first)
      ∙ ap (λ made. combined contribution_cmp made (least_from policies (at + 1)))
      (silent at first (omega arith) (omega arith))
      ∙ least_from-skip policies (at + 1) count (omega arith)
      (λ place d le lt. silent place d (omega arith) (omega arith))
      ∙ ap (least_from policies) (omega arith)

  module _ (question : Question) (silent : (policy : Policy) → matches question policy ≡ false → offered policy ≡ None)
      (policies : List Policy) (window : Window) (within : window.end ≤ length policies) (order : window.start ≤ window.end)
      (outside : FailsOutside (matches question) window policies) where
    -- no policy is looked at yet
    pub least_from-first : Offers buckets (least_from policies window.end) None
    least_from-first =
        let left : ℕ = length policies - window.end in
        let all : window.end + left ≡ length policies = omega arith in
        subst (λ made. Offers buckets made None)
        (sym (least_from-skip policies window.end left (omega arith)
        (λ place d le lt. silent (get_or policies place d) (outside place d (omega arith) (inr le)))
        ∙ ap (λ others. first_least contribution_cmp (filter_map offered others))
        (drop-past policies (window.end + left) (omega arith))))
        tt

    -- all that match are looked at
    pub least_from-last : (best : Option Offer) → Offers buckets (least_from policies window.start) best
        → Offers buckets (first_least contribution_cmp (filter_map offered policies)) best
    least_from-last best offers =
        subst (λ made. Offers buckets made best)
        (sym (least_from-skip policies 0 window.start (omega arith)
        (λ place d le lt. silent (get_or policies place d) (outside place d (omega arith) (inl (omega arith))))
        ∙ ap (least_from policies) (omega arith)))
        offers
