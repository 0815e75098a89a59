-- A search for the first least of the elements that count, from the end of a list to its front.
use Rattle.std.proofs.Common.{◌≡◌, ◌≢◌, ℕ, ◌+◌, ◌-◌, ◌<◌, ◌≤◌, Bool, true, false, cond, List, [], ◌∷◌, length, drop}
use Rattle.std.proofs.Common.{get_or, slice_get, Option, None, Some, IfSome, MatchOption, refl, sym, ap, ◌∙◌, subst}
use Rattle.std.proofs.Common.{inl, inr, arith}
use Rattle.std.specs.declared.cmp.Ordering.{Ordering}
use Rattle.std.specs.declared.cmp.Ordering.TheVariants.{Less, Equal, Greater}
use Rattle.std.specs.Cmp.{IsTotalOrder}
use Rattle.std.specs.List.{All, AllByRecursion, filter}
use Rattle.std.specs.Ordering.{is_gt, min_by_ordering}
use Rattle.std.proofs.lemmas.Bool.{false≢true, cases_lt}
use Rattle.std.proofs.lemmas.Cmp.{tied_itself}
use Rattle.std.proofs.lemmas.List.{at_drop_more}
use Rattle.std.proofs.lemmas.Option.{slice_get_read}
use Rattle.std.proofs.lemmas.List.Elements.{All-from_recursion, recursion_from_All, filter_passes}
use Rattle.cynara_keys.specs.Minimum.{lesser, first_least}
use Rattle.cynara_keys.proofs.Minimum.{first_least-all, first_least-none, first_least-before}

pub min-after : {X : Type 0} (order : Ordering) (x other : X) → is_gt order ≡ true
    → min_by_ordering order x other ≡ other
min-after Less x other after = absurd (false≢true after)
min-after Equal x other after = absurd (false≢true after)
min-after Greater x other after = refl

pub min-before : {X : Type 0} (order : Ordering) (x other : X) → is_gt order ≡ false → min_by_ordering order x other ≡ x
min-before Less x other before = refl
min-before Equal x other before = refl
min-before Greater x other before = absurd (false≢true (sym before))

empty-cond : {X : Type 0} (test : X → Bool) (x : X) (xs passed : List X) (passes : Bool) → test x ≡ passes
    → (passed ≡ [] → AllByRecursion (λ y. test y ≡ false) xs) → cond passes (x ∷ passed) passed ≡ []
    → AllByRecursion (λ y. test y ≡ false) (x ∷ xs)
empty-cond test x xs passed true is others empty = cc
empty-cond test x xs passed false is others empty = (is, others empty)

-- where no element passes, each fails
filter-empty : {X : Type 0} (test : X → Bool) (xs : List X) → filter test xs ≡ []
    → AllByRecursion (λ x. test x ≡ false) xs
filter-empty test [] empty = tt
filter-empty test (x ∷ xs) empty = empty-cond test x xs (filter test xs) (test x) refl (filter-empty test xs) empty

module _ {X : Type 0} (counts : X → Bool) (cmp : X → X → Ordering) where
  -- the first least of those that count
  abbrev pub best_of : List X → Option X
  best_of xs = first_least cmp (filter counts xs)

  best_of-cons : (x : X) (xs : List X) (says : Bool) → counts x ≡ says
      → best_of (x ∷ xs) ≡ cond says (Some (lesser cmp x (best_of xs))) (best_of xs)
  best_of-cons x xs true is = ap (λ b. first_least cmp (cond b (x ∷ filter counts xs) (filter counts xs))) is
  best_of-cons x xs false is = ap (λ b. first_least cmp (cond b (x ∷ filter counts xs) (filter counts xs))) is

  pub best_of-counts : (xs : List X) → IfSome (best_of xs) (λ best. counts best ≡ true)
  best_of-counts xs =
      let P : X → Type 0 = λ x. counts x ≡ true in
      first_least-all cmp P (filter counts xs) (recursion_from_All P (filter counts xs) (filter_passes counts xs))

  pub best_of-none : (xs : List X) → best_of xs ≡ None → All (λ x. counts x ≡ false) xs
  best_of-none xs none =
      All-from_recursion (λ x. counts x ≡ false) xs
      (filter-empty counts xs (first_least-none cmp (filter counts xs) none))

  -- the place of the first least of those that count, from a place on
  pub record IsBest (xs : List X) (from : ℕ) (best : Option ℕ) : Type 0 where
    pub decides : MatchOption best (best_of (drop from xs) ≡ None)
        (λ place. slice_get xs place ≡ best_of (drop from xs))
    pub in_range : IfSome best (λ place. place < length xs)
    pub first : IfSome best (λ place. (k : ℕ) → from ≤ k → k < place → slice_get xs k ≢ best_of (drop from xs))

module _ {X : Type 0} (counts : X → Bool) {cmp : X → X → Ordering} (order : IsTotalOrder cmp) where
  pub best_of-before : (xs : List X) → IfSome (best_of counts cmp xs)
      (λ best. All (λ other. is_gt (cmp best other) ≡ false) (filter counts xs))
  best_of-before xs = lifted (best_of counts cmp xs) (first_least-before order (filter counts xs))
    where
      lifted : (best : Option X)
          → IfSome best (λ x. AllByRecursion (λ other. is_gt (cmp x other) ≡ false) (filter counts xs))
          → IfSome best (λ x. All (λ other. is_gt (cmp x other) ≡ false) (filter counts xs))
      lifted None before = tt
      lifted (Some x) before = All-from_recursion (λ other. is_gt (cmp x other) ≡ false) (filter counts xs) before

  more : (xs : List X) (at : ℕ) (x : X) (says : Bool) → at < length xs → x ≡ get_or xs at x → counts x ≡ says
      → best_of counts cmp (drop at xs)
      ≡ cond says (Some (lesser cmp x (best_of counts cmp (drop (at + 1) xs)))) (best_of counts cmp (drop (at + 1) xs))
  more xs at x says lt is speaks =
      at_drop_more (best_of counts cmp) xs at x lt
      ∙ ap (λ y. best_of counts cmp (y ∷ drop (at + 1) xs)) (sym is)
      ∙ best_of-cons counts cmp x (drop (at + 1) xs) says speaks

  -- one element more, which isn't the least
  same : (xs : List X) (at : ℕ) (best : Option ℕ)
      → best_of counts cmp (drop at xs) ≡ best_of counts cmp (drop (at + 1) xs)
      → slice_get xs at ≢ best_of counts cmp (drop at xs)
      → IsBest counts cmp xs (at + 1) best → IsBest counts cmp xs at best
  same xs at None alike other is = record { decides = alike ∙ is.decides; in_range = tt; first = tt }
  same xs at (Some place) alike other is = record {
    decides = is.decides ∙ sym alike;
    in_range = is.in_range;
    first = λ k le lt e. elim (cases_lt at k) [
      | inl above ↦ is.first k (omega arith) lt (e ∙ alike)
      | inr below ↦ (let here : k ≡ at = omega arith in other (ap (slice_get xs) (sym here) ∙ e))
    ];
  }

  -- one element more, which is the least
  here : (xs : List X) (at : ℕ) → at < length xs → slice_get xs at ≡ best_of counts cmp (drop at xs)
      → IsBest counts cmp xs at (Some at)
  here xs at lt is = record { decides = is; in_range = lt; first = λ k le above. absurd (omega arith) }

  -- an element that doesn't count
  pub IsBest-silent : (xs : List X) (at : ℕ) (best : Option ℕ) (x : X) → at < length xs → x ≡ get_or xs at x
      → counts x ≡ false → IsBest counts cmp xs (at + 1) best → IsBest counts cmp xs at best
  IsBest-silent xs at best x lt is silent best_is =
      same xs at best (more xs at x false lt is silent)
      (λ e. false≢true (sym silent
      ∙ subst (λ o. IfSome o (λ y. counts y ≡ true)) (sym e ∙ slice_get_read xs (length xs) at x refl lt is)
      (best_of-counts counts cmp (drop at xs))))
      best_is

  -- an element that comes after the least of those behind it
  pub IsBest-after : (xs : List X) (at place : ℕ) (x other : X) → at < length xs → x ≡ get_or xs at x → counts x ≡ true
      → other ≡ get_or xs place other → is_gt (cmp x other) ≡ true
      → IsBest counts cmp xs (at + 1) (Some place) → IsBest counts cmp xs at (Some place)
  IsBest-after xs at place x other lt is speaks other_is after best_is =
      let behind_is : best_of counts cmp (drop (at + 1) xs) ≡ Some other =
      sym best_is.decides ∙ slice_get_read xs (length xs) place other refl best_is.in_range other_is in
      let now : best_of counts cmp (drop at xs) ≡ Some other =
      more xs at x true lt is speaks ∙ ap (λ rest. Some (lesser cmp x rest)) behind_is
      ∙ ap Some (min-after (cmp x other) x other after) in
      let read = slice_get_read xs (length xs) at x refl lt is in
      same xs at (Some place) (now ∙ sym behind_is)
      (λ e. let tied : x ≡ other = cc in
      false≢true (sym (ap is_gt (tied_itself order x)) ∙ ap (λ y. is_gt (cmp x y)) tied ∙ after))
      best_is

  -- an element that doesn't come after the least of those behind it
  pub IsBest-instead : (xs : List X) (at place : ℕ) (x other : X) → at < length xs → x ≡ get_or xs at x
      → counts x ≡ true
      → other ≡ get_or xs place other → is_gt (cmp x other) ≡ false
      → IsBest counts cmp xs (at + 1) (Some place) → IsBest counts cmp xs at (Some at)
  IsBest-instead xs at place x other lt is speaks other_is before best_is =
      let behind_is : best_of counts cmp (drop (at + 1) xs) ≡ Some other =
      sym best_is.decides ∙ slice_get_read xs (length xs) place other refl best_is.in_range other_is in
      here xs at lt
      (slice_get_read xs (length xs) at x refl lt is
      ∙ sym (more xs at x true lt is speaks ∙ ap (λ rest. Some (lesser cmp x rest)) behind_is
      ∙ ap Some (min-before (cmp x other) x other before)))

  -- an element behind which none counts
  pub IsBest-only : (xs : List X) (at : ℕ) (x : X) → at < length xs → x ≡ get_or xs at x → counts x ≡ true
      → IsBest counts cmp xs (at + 1) None → IsBest counts cmp xs at (Some at)
  IsBest-only xs at x lt is speaks best_is =
      here xs at lt
      (slice_get_read xs (length xs) at x refl lt is
      ∙ sym (more xs at x true lt is speaks ∙ ap (λ rest. Some (lesser cmp x rest)) best_is.decides))

-- the same, with one place fewer to look at
pub IsBest-down : {X : Type 0} {counts : X → Bool} {cmp : X → X
    → Ordering} {xs : List X} {left : ℕ} {best alike : Option ℕ}
    → 0 < left → best ≡ alike → IsBest counts cmp xs left best → IsBest counts cmp xs (left - 1 + 1) alike
IsBest-down {counts = counts} {cmp = cmp} {xs = xs} {left = left} {best = best} some is best_is =
    let above : left ≡ left - 1 + 1 = omega arith in
    subst (λ b. IsBest counts cmp xs (left - 1 + 1) b) is (subst (λ n. IsBest counts cmp xs n best) above best_is)
