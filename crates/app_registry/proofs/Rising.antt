-- Lists that rise by a total order: an element put at its place, and the elements of a list in order, each once.
use Rattle.std.proofs.Common.{◌≡◌, ℕ, ◌+◌, ◌<◌, ◌≤◌, Bool, true, false, cond, ◌||◌, List, [], ◌∷◌, ◌++◌, zero, suc, length, set, get_or, Result, Ok, Err, MatchResult, refl, sym, ap, ◌∙◌, subst, arith}
use mathlib.Core.Bool.{true≢false}
use Rattle.std.specs.declared.cmp.Ordering.{Ordering}
use Rattle.std.specs.declared.cmp.Ordering.TheVariants.{Less, Equal, Greater}
use Rattle.std.specs.Cmp.{IsTotalOrder}
use Rattle.std.specs.List.{All, AllByRecursion, Contains, HoldsAt, filter, insert, list_any, dedup, dedup_from}
use Rattle.std.specs.List.Sorted.{IsStrictlySortedBy, IsSortedBy, IsSearchInRange, IsBinarySearchResult, IsPartitionPoint, IsPermutation, IsSorted}
use Rattle.std.specs.Ordering.{is_lt, is_eq, eq_by_cmp, ordering_reverse}
use Rattle.std.proofs.lemmas.Cmp.{tied_itself, tied_back, alike_right}
use Rattle.std.proofs.lemmas.List.Elements.{recursion_from_All, All-from_recursion, All-contains_itself, Contains-append_right}
use Rattle.std.proofs.lemmas.List.Sorted.{searchable_from_sorted, All-permutation, IsPermutation-sym, list_any-IsPermutation}
use Rattle.std.proofs.lemmas.List.Filters.{All-dedup}
use Rattle.std.proofs.lemmas.List.Kept.{IsStrictlySortedBy-dedup}
use Rattle.std.proofs.lemmas.Map.Keys.{sorted_head, sorted_tail, Less-from_sorted}
use Rattle.cynara_keys.proofs.Search.{none_equal}
use Rattle.app_registry.specs.Rising.{placed, rising}

pub or_true : (b : Bool) → (b || true) ≡ true
or_true true = refl
or_true false = refl

pub AllByRecursion-append : {X : Type 0} (P : X → Type 0) (xs ys : List X) → AllByRecursion P xs → AllByRecursion P ys
    → AllByRecursion P (xs ++ ys)
AllByRecursion-append P [] ys front back = back
AllByRecursion-append P (x ∷ xs) ys front back = (front.0, AllByRecursion-append P xs ys front.1 back)

pub AllByRecursion-weaker : {X : Type 0} (P Q : X → Type 0) → ((x : X) → P x → Q x) → (xs : List X) → AllByRecursion P xs
    → AllByRecursion Q xs
AllByRecursion-weaker P Q f [] all = tt
AllByRecursion-weaker P Q f (x ∷ xs) all = (f x all.0, AllByRecursion-weaker P Q f xs all.1)

kept : {X : Type 0} (P : X → Type 0) (p : Bool) (x : X) (xs : List X) → P x → AllByRecursion P xs
    → AllByRecursion P (cond p (x ∷ xs) xs)
kept P true x xs here rest = (here, rest)
kept P false x xs here rest = rest

pub AllByRecursion-filter : {X : Type 0} (P : X → Type 0) (p : X → Bool) (xs : List X) → AllByRecursion P xs
    → AllByRecursion P (filter p xs)
AllByRecursion-filter P p [] all = tt
AllByRecursion-filter P p (x ∷ xs) all = kept P (p x) x (filter p xs) all.0 (AllByRecursion-filter P p xs all.1)

module _ {X : Type 0} {R : X → X → Ordering} (order : IsTotalOrder R) where
  abbrev pub AllBehind : X → List X → Type 0
  AllBehind x xs = AllByRecursion (λ y. R x y ≡ Less) xs

  abbrev Rises : List X → Type 0
  Rises xs = IsStrictlySortedBy R xs

  flip : (x y : X) → R x y ≡ Less → R y x ≡ Greater
  flip x y lt = order.antisymm y x ∙ ap ordering_reverse lt

  flip_back : (x y : X) → R x y ≡ Greater → R y x ≡ Less
  flip_back x y gt = order.antisymm y x ∙ ap ordering_reverse gt

  pub rises-cons : (x : X) (xs : List X) → AllBehind x xs → IsStrictlySortedBy R xs → IsStrictlySortedBy R (x ∷ xs)
  unfolding IsStrictlySortedBy
  rises-cons x xs behind rest = (behind, rest)

  pub rises-nil : IsStrictlySortedBy R []
  unfolding IsStrictlySortedBy
  rises-nil = tt

  AllBehind-trans : (x y : X) (ys : List X) → R x y ≡ Less → AllBehind y ys → AllBehind x ys
  AllBehind-trans x y ys lt =
      AllByRecursion-weaker (λ z. R y z ≡ Less) (λ z. R x z ≡ Less) (λ z below. order.trans x y z lt below) ys

  AllBehind-tied : (x y : X) (ys : List X) → R y x ≡ Equal → AllBehind y ys → AllBehind x ys
  AllBehind-tied x y ys tied =
      AllByRecursion-weaker (λ z. R y z ≡ Less) (λ z. R x z ≡ Less) (λ z below. sym (order.congr y x z tied) ∙ below) ys

  -- ---- an element put at its place

  none_before : (x : X) (ys : List X) → AllBehind x ys → filter (λ other. is_lt (R other x)) ys ≡ []
  none_before x [] behind = refl
  none_before x (y ∷ ys) behind =
      let rest = filter (λ other. is_lt (R other x)) ys in
      ap (λ o. cond (is_lt o) (y ∷ rest) rest) (flip x y behind.0) ∙ none_before x ys behind.1

  all_behind : (x : X) (ys : List X) → AllBehind x ys → filter (λ other. is_lt (R x other)) ys ≡ ys
  all_behind x [] behind = refl
  all_behind x (y ∷ ys) behind =
      let rest = filter (λ other. is_lt (R x other)) ys in
      ap (λ o. cond (is_lt o) (y ∷ rest) rest) behind.0 ∙ ap (λ zs. y ∷ zs) (all_behind x ys behind.1)

  placed-behind : (x : X) (ys : List X) → AllBehind x ys → placed R x ys ≡ x ∷ ys
  placed-behind x ys behind =
      let none = none_before x ys behind in
      let all = all_behind x ys behind in
      λ i. none i ++ x ∷ all i

  placed-before : (x y : X) (ys : List X) → R y x ≡ Less → placed R x (y ∷ ys) ≡ y ∷ placed R x ys
  placed-before x y ys lt =
      let gt = flip y x lt in
      let front = filter (λ other. is_lt (R other x)) ys in
      let back = filter (λ other. is_lt (R x other)) ys in
      λ i. cond (is_lt (lt i)) (y ∷ front) front ++ x ∷ cond (is_lt (gt i)) (y ∷ back) back

  placed-tied : (x y : X) (ys : List X) → R y x ≡ Equal → AllBehind y ys → placed R x (y ∷ ys) ≡ x ∷ ys
  placed-tied x y ys tied behind =
      let back_tied = tied_back order y x tied in
      let front = filter (λ other. is_lt (R other x)) ys in
      let back = filter (λ other. is_lt (R x other)) ys in
      let dropped : placed R x (y ∷ ys) ≡ placed R x ys =
      λ i. cond (is_lt (tied i)) (y ∷ front) front ++ x ∷ cond (is_lt (back_tied i)) (y ∷ back) back in
      dropped ∙ placed-behind x ys (AllBehind-tied x y ys tied behind)

  pub AllByRecursion-placed : (P : X → Type 0) (x : X) (ys : List X) → P x → AllByRecursion P ys
      → AllByRecursion P (placed R x ys)
  AllByRecursion-placed P x ys here all =
      AllByRecursion-append P (filter (λ other. is_lt (R other x)) ys) (x ∷ filter (λ other. is_lt (R x other)) ys)
      (AllByRecursion-filter P (λ other. is_lt (R other x)) ys all)
      (here, AllByRecursion-filter P (λ other. is_lt (R x other)) ys all)

  placed_rises-at : (x y : X) (ys : List X) (o : Ordering) → R y x ≡ o → IsStrictlySortedBy R (placed R x ys)
      → AllBehind y ys → IsStrictlySortedBy R ys → IsStrictlySortedBy R (placed R x (y ∷ ys))
  placed_rises-at x y ys Less at later behind rest =
      subst Rises (sym (placed-before x y ys at))
      (rises-cons y (placed R x ys) (AllByRecursion-placed (λ z. R y z ≡ Less) x ys at behind) later)
  placed_rises-at x y ys Equal at later behind rest =
      subst Rises (sym (placed-tied x y ys at behind)) (rises-cons x ys (AllBehind-tied x y ys at behind) rest)
  placed_rises-at x y ys Greater at later behind rest =
      let lt = flip_back y x at in
      let all : AllBehind x (y ∷ ys) = (lt, AllBehind-trans x y ys lt behind) in
      subst Rises (sym (placed-behind x (y ∷ ys) all)) (rises-cons x (y ∷ ys) all (rises-cons y ys behind rest))

  pub placed_rises : (x : X) (ys : List X) → IsStrictlySortedBy R ys → IsStrictlySortedBy R (placed R x ys)
  placed_rises x [] rises = rises-cons x [] tt rises-nil
  placed_rises x (y ∷ ys) rises =
      placed_rises-at x y ys (R y x) refl (placed_rises x ys (sorted_tail R y ys rises)) (sorted_head R y ys rises)
      (sorted_tail R y ys rises)

  pub rising_rises : (xs : List X) → IsStrictlySortedBy R (rising R xs)
  rising_rises [] = rises-nil
  rising_rises (x ∷ xs) = placed_rises x (rising R xs) (rising_rises xs)

  pub AllByRecursion-rising : (P : X → Type 0) (xs : List X) → AllByRecursion P xs → AllByRecursion P (rising R xs)
  AllByRecursion-rising P [] all = tt
  AllByRecursion-rising P (x ∷ xs) all =
      AllByRecursion-placed P x (rising R xs) all.0 (AllByRecursion-rising P xs all.1)

  -- ---- where a search ends

  set-placed : (x : X) (ys : List X) (at : ℕ) → IsStrictlySortedBy R ys → at < length ys
      → HoldsAt (λ y. R y x ≡ Equal) ys at → set ys at x ≡ placed R x ys
  set-placed x [] at rises within tied = absurd (omega arith)
  set-placed x (y ∷ ys) zero rises within tied = sym (placed-tied x y ys (tied y) (sorted_head R y ys rises))
  set-placed x (y ∷ ys) (suc at) rises within tied =
      let before = Less-from_sorted R (y ∷ ys) 0 (suc at) y rises (omega arith) within in
      let lt : R y x ≡ Less = sym (alike_right order (get_or ys at y) x y (tied y)) ∙ before in
      ap (λ zs. y ∷ zs) (set-placed x ys at (sorted_tail R y ys rises) (omega arith) tied) ∙ sym (placed-before x y ys lt)

  insert-placed : (x : X) (ys : List X) (at : ℕ) → at ≤ length ys
      → IsPartitionPoint (λ y. R y x ≡ Less) (λ y. R y x ≡ Greater) ys at → IsStrictlySortedBy R ys
      → insert ys at x ≡ placed R x ys
  insert-placed x ys zero within parted rises =
      let behind : AllBehind x ys =
      recursion_from_All (λ y. R x y ≡ Less) ys (λ k d lt. flip_back (get_or ys k d) x (parted.1 k d (omega arith) lt)) in
      sym (placed-behind x ys behind)
  insert-placed x [] (suc at) within parted rises = absurd (omega arith)
  insert-placed x (y ∷ ys) (suc at) within parted rises =
      let lt : R y x ≡ Less = parted.0 0 y (omega arith) (omega arith) in
      let rest =
      insert-placed x ys at (omega arith) (
        λ k d short front. parted.0 (suc k) d (omega arith) (omega arith),
        λ k d back short. parted.1 (suc k) d (omega arith) (omega arith),
      ) (sorted_tail R y ys rises) in
      ap (λ zs. y ∷ zs) rest ∙ sym (placed-before x y ys lt)

  rises_sorted : (xs : List X) → IsStrictlySortedBy R xs → IsSortedBy (λ a b. is_lt (R a b)) xs
  rises_sorted xs rises k d ge lt =
      ap is_lt (flip (get_or xs k d) (get_or xs (k + 1) d) (Less-from_sorted R xs k (k + 1) d rises (omega arith) lt))

  pub searched : (x : X) (xs : List X) → IsStrictlySortedBy R xs → (r : Result ℕ ℕ) → IsSearchInRange r (length xs)
      → IsBinarySearchResult (λ y. R y x) xs r
      → MatchResult r (λ at. set xs at x ≡ placed R x xs) (λ at. insert xs at x ≡ placed R x xs)
  searched x xs rises (Ok at) range tied = set-placed x xs at rises range tied
  searched x xs rises (Err at) range parted =
      insert-placed x xs at range (parted (searchable_from_sorted order (λ y. y) xs x (rises_sorted xs rises))) rises

  -- ---- which elements a list has

  -- whether the list has an element that ties with q
  abbrev pub has : List X → X → Bool
  has xs q = list_any (eq_by_cmp R q) xs

  has_none : (x : X) (ys : List X) (q : X) → R q x ≡ Equal → AllBehind x ys → has ys q ≡ false
  has_none x [] q tied behind = refl
  has_none x (y ∷ ys) q tied behind =
      ap (λ o. is_eq o || has ys q) (order.congr q x y tied ∙ behind.0) ∙ has_none x ys q tied behind.1

  has_itself : (x : X) (xs : List X) → has (x ∷ xs) x ≡ true
  has_itself x xs = ap (λ o. is_eq o || has xs x) (tied_itself order x)

  swapped : (a b c : Bool) → (a || (b || c)) ≡ (b || (a || c))
  swapped true true c = refl
  swapped true false c = refl
  swapped false b c = refl

  is_eq-Equal : (o : Ordering) → is_eq o ≡ true → o ≡ Equal
  is_eq-Equal Less h = cc
  is_eq-Equal Equal h = refl
  is_eq-Equal Greater h = cc

  absorbed : (a b c : Bool) → a ≡ b → (a || c) ≡ (a || (b || c))
  absorbed true b c h = refl
  absorbed false b c h = ap (λ own. own || c) h

  has-placed-at : (x y : X) (ys : List X) (q : X) (o : Ordering) → R y x ≡ o → has (placed R x ys) q ≡ (is_eq (R q x) || has ys q)
      → AllBehind y ys → has (placed R x (y ∷ ys)) q ≡ (is_eq (R q x) || has (y ∷ ys) q)
  has-placed-at x y ys q Less at later behind =
      ap (λ zs. has zs q) (placed-before x y ys at) ∙ ap (λ b. is_eq (R q y) || b) later
      ∙ swapped (is_eq (R q y)) (is_eq (R q x)) (has ys q)
  has-placed-at x y ys q Equal at later behind =
      let same : is_eq (R q x) ≡ is_eq (R q y) = ap is_eq (sym (alike_right order y x q at)) in
      ap (λ zs. has zs q) (placed-tied x y ys at behind) ∙ absorbed (is_eq (R q x)) (is_eq (R q y)) (has ys q) same
  has-placed-at x y ys q Greater at later behind =
      let lt = flip_back y x at in
      let all : AllBehind x (y ∷ ys) = (lt, AllBehind-trans x y ys lt behind) in
      ap (λ zs. has zs q) (placed-behind x (y ∷ ys) all)

  pub has-placed : (x : X) (ys : List X) (q : X) → IsStrictlySortedBy R ys
      → has (placed R x ys) q ≡ (is_eq (R q x) || has ys q)
  has-placed x [] q rises = refl
  has-placed x (y ∷ ys) q rises =
      has-placed-at x y ys q (R y x) refl (has-placed x ys q (sorted_tail R y ys rises)) (sorted_head R y ys rises)

  pub has-rising : (xs : List X) (q : X) → has (rising R xs) q ≡ has xs q
  has-rising [] q = refl
  has-rising (x ∷ xs) q =
      has-placed x (rising R xs) q (rising_rises xs) ∙ ap (λ b. is_eq (R q x) || b) (has-rising xs q)

  is_eq-reverse : (o : Ordering) → is_eq (ordering_reverse o) ≡ is_eq o
  is_eq-reverse Less = refl
  is_eq-reverse Equal = refl
  is_eq-reverse Greater = refl

  eq-back : (x y : X) → is_eq (R x y) ≡ is_eq (R y x)
  eq-back x y = ap is_eq (order.antisymm x y) ∙ is_eq-reverse (R y x)

  tied-has : (x : X) (ys : List X) (at : ℕ) → at < length ys → HoldsAt (λ y. R y x ≡ Equal) ys at → has ys x ≡ true
  tied-has x [] at within tied = absurd (omega arith)
  tied-has x (y ∷ ys) zero within tied = ap (λ b. b || has ys x) (eq-back x y ∙ ap is_eq (tied y))
  tied-has x (y ∷ ys) (suc at) within tied =
      ap (λ b. is_eq (R x y) || b) (tied-has x ys at (omega arith) tied) ∙ or_true (is_eq (R x y))

  untied-has : (x : X) (ys : List X) → ((k : ℕ) (d : X) → k < length ys → is_eq (R (get_or ys k d) x) ≡ false)
      → has ys x ≡ false
  untied-has x [] untied = refl
  untied-has x (y ∷ ys) untied =
      ap (λ b. b || has ys x) (eq-back x y ∙ untied 0 y (omega arith))
      ∙ untied-has x ys (λ k d lt. untied (suc k) d (omega arith))

  -- what a search for an element tells: it is there, or it is not and belongs where the search ends
  pub searched-has : (x : X) (xs : List X) → IsStrictlySortedBy R xs → (r : Result ℕ ℕ) → IsSearchInRange r (length xs)
      → IsBinarySearchResult (λ y. R y x) xs r
      → MatchResult r (λ at. has xs x ≡ true) (λ at. (has xs x ≡ false) × (insert xs at x ≡ placed R x xs))
  searched-has x xs rises (Ok at) range tied = tied-has x xs at range tied
  searched-has x xs rises (Err at) range parted =
      let split = parted (searchable_from_sorted order (λ y. y) xs x (rises_sorted xs rises)) in
      (untied-has x xs (none_equal (λ y. R y x) xs at split), insert-placed x xs at range split rises)

  -- ---- rising lists with the same elements

  -- the elements at the same places tie
  abbrev pub AllTied : List X → List X → Type 0
  AllTied [] [] = Unit {0}
  AllTied [] (y ∷ ys) = ⊥
  AllTied (x ∷ xs) [] = ⊥
  AllTied (x ∷ xs) (y ∷ ys) = (R x y ≡ Equal) × AllTied xs ys

  tied_tails : (a b c d : Bool) → a ≡ c → (a ≡ true → b ≡ false) → (c ≡ true → d ≡ false) → (a || b) ≡ (c || d) → b ≡ d
  tied_tails true b true d same one other h = one refl ∙ sym (other refl)
  tied_tails true b false d same one other h = cc
  tied_tails false b true d same one other h = cc
  tied_tails false b false d same one other h = h

  all_tied-at : (x : X) (xs : List X) (y : X) (ys : List X) (o : Ordering) → R x y ≡ o → IsStrictlySortedBy R (x ∷ xs)
      → IsStrictlySortedBy R (y ∷ ys) → ((q : X) → has (x ∷ xs) q ≡ has (y ∷ ys) q)
      → (R x y ≡ Equal) × ((q : X) → has xs q ≡ has ys q)
  all_tied-at x xs y ys Less at first second same =
      let behind : AllBehind x (y ∷ ys) = (at, AllBehind-trans x y ys at (sorted_head R y ys second)) in
      absurd (true≢false (sym (has_itself x xs) ∙ same x ∙ has_none x (y ∷ ys) x (tied_itself order x) behind))
  all_tied-at x xs y ys Equal at first second same = (
    at,
    λ q. tied_tails (is_eq (R q x)) (has xs q) (is_eq (R q y)) (has ys q) (ap is_eq (alike_right order x y q at))
        (λ tied. has_none x xs q (is_eq-Equal (R q x) tied) (sorted_head R x xs first))
        (λ tied. has_none y ys q (is_eq-Equal (R q y) tied) (sorted_head R y ys second)) (same q),
  )
  all_tied-at x xs y ys Greater at first second same =
      let lt = flip_back x y at in
      let behind : AllBehind y (x ∷ xs) = (lt, AllBehind-trans y x xs lt (sorted_head R x xs first)) in
      absurd (true≢false (sym (has_itself y ys) ∙ sym (same y) ∙ has_none y (x ∷ xs) y (tied_itself order y) behind))

  pub all_tied : (xs ys : List X) → IsStrictlySortedBy R xs → IsStrictlySortedBy R ys → ((q : X) → has xs q ≡ has ys q)
      → AllTied xs ys
  all_tied [] [] first second same = tt
  all_tied [] (y ∷ ys) first second same = absurd (true≢false (sym (has_itself y ys) ∙ sym (same y)))
  all_tied (x ∷ xs) [] first second same = absurd (true≢false (sym (has_itself x xs) ∙ same x))
  all_tied (x ∷ xs) (y ∷ ys) first second same =
      let heads = all_tied-at x xs y ys (R x y) refl first second same in
      (heads.0, all_tied xs ys (sorted_tail R x xs first) (sorted_tail R y ys second) heads.1)

  -- elements of which those that tie are equal
  pub same_from_tied : (P : X → Type 0) → ((x y : X) → P x → P y → R x y ≡ Equal → x ≡ y) → (xs ys : List X)
      → AllByRecursion P xs → AllByRecursion P ys → AllTied xs ys → xs ≡ ys
  same_from_tied P same [] [] first second tied = refl
  same_from_tied P same [] (y ∷ ys) first second tied = absurd tied
  same_from_tied P same (x ∷ xs) [] first second tied = absurd tied
  same_from_tied P same (x ∷ xs) (y ∷ ys) first second tied =
      let head = same x y first.0 second.0 tied.0 in
      let tail = same_from_tied P same xs ys first.1 second.1 tied.1 in
      λ i. head i ∷ tail i

  -- ---- a sort, and then repeats left out

  module _ {E : X → X → Bool} (ties : (x y : X) → E x y ≡ eq_by_cmp R x y) where
    has-dedup_from-at : (k x : X) (xs : List X) (q : X) (b : Bool) → E x k ≡ b
        → ((k : X) → has (dedup_from E k xs) q ≡ (is_eq (R q k) || has xs q))
        → has (dedup_from E k (x ∷ xs)) q ≡ (is_eq (R q k) || (is_eq (R q x) || has xs q))
    has-dedup_from-at k x xs q true at rest =
        let tied = is_eq-Equal (R x k) (sym (ties x k) ∙ at) in
        ap (λ b. has (cond b (dedup_from E k xs) (k ∷ dedup_from E x xs)) q) at ∙ rest k
        ∙ absorbed (is_eq (R q k)) (is_eq (R q x)) (has xs q) (ap is_eq (sym (alike_right order x k q tied)))
    has-dedup_from-at k x xs q false at rest =
        ap (λ b. has (cond b (dedup_from E k xs) (k ∷ dedup_from E x xs)) q) at ∙ ap (λ b. is_eq (R q k) || b) (rest x)

    has-dedup_from : (xs : List X) (q k : X) → has (dedup_from E k xs) q ≡ (is_eq (R q k) || has xs q)
    has-dedup_from [] q k = refl
    has-dedup_from (x ∷ xs) q k = has-dedup_from-at k x xs q (E x k) refl (has-dedup_from xs q)

    has-dedup : (xs : List X) (q : X) → has (dedup E xs) q ≡ has xs q
    has-dedup [] q = refl
    has-dedup (x ∷ xs) q = has-dedup_from xs q x

    -- a list that is sorted, and then left by repeats, is the rising list of its elements
    pub rising_from_sort : (P : X → Type 0) → ((x y : X) → P x → P y → R x y ≡ Equal → x ≡ y) → (xs ys : List X)
        → AllByRecursion P xs → IsPermutation xs ys → IsSorted R ys → dedup E ys ≡ rising R xs
    rising_from_sort P same xs ys all moved sorted =
        let all_moved = All-permutation P xs ys moved (All-from_recursion P xs all) in
        same_from_tied P same (dedup E ys) (rising R xs)
        (recursion_from_All P (dedup E ys) (All-dedup E P ys all_moved))
        (AllByRecursion-rising P xs all)
        (all_tied (dedup E ys) (rising R xs) (IsStrictlySortedBy-dedup order ties ys sorted) (rising_rises xs)
        (λ q. has-dedup ys q ∙ list_any-IsPermutation (eq_by_cmp R q) ys xs (IsPermutation-sym xs ys moved)
        ∙ sym (has-rising xs q)))

  -- ---- the rising list of a list has its elements, and no others

  pub all_given : (xs : List X) → All (Contains xs) (rising R xs)
  all_given xs =
      All-from_recursion (Contains xs) (rising R xs)
      (AllByRecursion-rising (Contains xs) xs (recursion_from_All (Contains xs) xs (All-contains_itself xs)))

  Contains-has-at : (P : X → Type 0) → ((x y : X) → P x → P y → R x y ≡ Equal → x ≡ y) → (q y : X) (ys : List X) (o : Ordering)
      → R q y ≡ o → P q → P y → (has ys q ≡ true → Contains ys q) → (is_eq o || has ys q) ≡ true → Contains (y ∷ ys) q
  Contains-has-at P same q y ys Equal at own other rest h = (0, omega arith, sym (same q y own other at))
  Contains-has-at P same q y ys Less at own other rest h = Contains-append_right (y ∷ []) ys q (rest h)
  Contains-has-at P same q y ys Greater at own other rest h = Contains-append_right (y ∷ []) ys q (rest h)

  Contains-has : (P : X → Type 0) → ((x y : X) → P x → P y → R x y ≡ Equal → x ≡ y) → (ys : List X) (q : X)
      → AllByRecursion P ys → P q → has ys q ≡ true → Contains ys q
  Contains-has P same [] q all own h = absurd (true≢false (sym h))
  Contains-has P same (y ∷ ys) q all own h =
      Contains-has-at P same q y ys (R q y) refl own all.0 (Contains-has P same ys q all.1 own) h

  has_later : (y : X) (ys : List X) (q : X) → has ys q ≡ true → has (y ∷ ys) q ≡ true
  has_later y ys q h = ap (λ b. is_eq (R q y) || b) h ∙ or_true (is_eq (R q y))

  all_had : (xs : List X) → AllByRecursion (λ x. has xs x ≡ true) xs
  all_had [] = tt
  all_had (x ∷ xs) =
      (has_itself x xs, AllByRecursion-weaker (λ y. has xs y ≡ true) (λ y. has (x ∷ xs) y ≡ true) (has_later x xs) xs (all_had xs))

  there : (P : X → Type 0) → ((x y : X) → P x → P y → R x y ≡ Equal → x ≡ y) → (xs : List X) → AllByRecursion P (rising R xs)
      → (ys : List X) → AllByRecursion P ys → AllByRecursion (λ x. has xs x ≡ true) ys → AllByRecursion (Contains (rising R xs)) ys
  there P same xs all [] own had = tt
  there P same xs all (y ∷ ys) own had =
      (Contains-has P same (rising R xs) y all own.0 (has-rising xs y ∙ had.0), there P same xs all ys own.1 had.1)

  -- elements of which those that tie are equal
  pub all_there : (P : X → Type 0) → ((x y : X) → P x → P y → R x y ≡ Equal → x ≡ y) → (xs : List X) → AllByRecursion P xs
      → All (Contains (rising R xs)) xs
  all_there P same xs all =
      All-from_recursion (Contains (rising R xs)) xs
      (there P same xs (AllByRecursion-rising P xs all) xs all (all_had xs))
