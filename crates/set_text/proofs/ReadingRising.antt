-- Lists that rise, one value behind the other.
use Rattle.std.proofs.Common.{◌≡◌, ℕ, ◌-◌, Bool, true, false, ◌&&◌, List, [], ◌∷◌, ◌++◌, length, slice_get, Some, refl}
use Rattle.std.proofs.Common.{sym, ap, ◌∙◌, arith}
use Rattle.std.specs.declared.cmp.Ordering.{Ordering}
use Rattle.std.specs.declared.cmp.Ordering.TheVariants.{Less, Equal, Greater}
use Rattle.std.specs.Cmp.{IsTotalOrder}
use Rattle.std.specs.List.{AllByRecursion}
use Rattle.std.specs.List.Sorted.{IsStrictlySortedBy}
use Rattle.std.specs.Ordering.{is_lt, ordering_reverse}
use Rattle.std.proofs.lemmas.Bool.{and_parts}
use Rattle.std.proofs.lemmas.Map.Keys.{sorted_head, sorted_tail}
use Rattle.bucket_store.proofs.Lists.{All-weaker, All-append, filter-all, filter-none}
use Rattle.app_registry.specs.Rising.{placed, rising}
use Rattle.app_registry.proofs.Rising.{rises-cons, rises-nil}
use Rattle.cynara_keys.specs.Text.{text_cmp}
use Rattle.cynara_keys.proofs.Order.{text_total}
use Rattle.set_text.specs.Lines.{last_of, is_above, rises_above}
use Rattle.set_text.specs.Registry.{are_rising}

pub is_lt-Less : (o : Ordering) → is_lt o ≡ true → o ≡ Less
is_lt-Less Less h = refl
is_lt-Less Equal h = cc
is_lt-Less Greater h = cc

-- ---- the last value

pub last_of-more : {X : Type 0} (x y : X) (xs : List X) → last_of (x ∷ y ∷ xs) ≡ last_of (y ∷ xs)
last_of-more x y xs =
    let long : length (x ∷ y ∷ xs) - 1 ≡ length (y ∷ xs) = omega arith in
    let short : length (y ∷ xs) - 1 ≡ length xs = omega arith in
    ap (λ (n : ℕ). slice_get (x ∷ y ∷ xs) n) long ∙ sym (ap (λ (n : ℕ). slice_get (y ∷ xs) n) short)

pub last_of-snoc : {X : Type 0} (front : List X) (x : X) → last_of (front ++ x ∷ []) ≡ Some x
last_of-snoc [] x = refl
last_of-snoc (y ∷ []) x = last_of-more y x []
last_of-snoc (y ∷ z ∷ front) x = last_of-more y z (front ++ x ∷ []) ∙ last_of-snoc (z ∷ front) x

-- a list that has values ends with one
pub record Ends {X : Type 0} (list : List X) : Type 0 where
  pub front : List X
  pub last : X
  pub parts : list ≡ front ++ last ∷ []
  pub is_last : last_of list ≡ Some last

pub ends : {X : Type 0} (x : X) (xs : List X) → Ends (x ∷ xs)
ends x [] = record { front = []; last = x; parts = refl; is_last = refl }
ends x (y ∷ xs) =
    let rest = ends y xs in
    record {
      front = x ∷ rest.front;
      last = rest.last;
      parts = ap (λ list. x ∷ list) rest.parts;
      is_last = last_of-more x y xs ∙ rest.is_last;
    }

-- ---- a value that comes behind the last one

module _ {X : Type 0} {R : X → X → Ordering} (order : IsTotalOrder R) where
  pub all-below : (xs : List X) (x : X) → IsStrictlySortedBy R xs → rises_above R xs x ≡ true
      → AllByRecursion (λ y. R y x ≡ Less) xs
  all-below [] x sorted above = tt
  all-below (y ∷ []) x sorted above = (is_lt-Less (R y x) above, tt)
  all-below (y ∷ z ∷ ys) x sorted above =
      let above_rest : rises_above R (z ∷ ys) x ≡ true = ap (λ last. is_above R last x) (sym (last_of-more y z ys))
      ∙ above in
      let rest = all-below (z ∷ ys) x (sorted_tail R y (z ∷ ys) sorted) above_rest in
      (order.trans y z x (sorted_head R y (z ∷ ys) sorted).0 rest.0, rest)

  pub sorted-snoc : (xs : List X) (x : X) → AllByRecursion (λ y. R y x ≡ Less) xs → IsStrictlySortedBy R xs
      → IsStrictlySortedBy R (xs ++ x ∷ [])
  sorted-snoc [] x below sorted = rises-cons order x [] tt (rises-nil order)
  sorted-snoc (y ∷ ys) x below sorted =
      rises-cons order y (ys ++ x ∷ [])
      (All-append (λ z. R y z ≡ Less) ys (x ∷ []) (sorted_head R y ys sorted) (below.0, tt))
      (sorted-snoc ys x below.1 (sorted_tail R y ys sorted))

  pub sorted-above : (xs : List X) (x : X) → IsStrictlySortedBy R xs → rises_above R xs x ≡ true
      → IsStrictlySortedBy R (xs ++ x ∷ [])
  sorted-above xs x sorted above = sorted-snoc xs x (all-below xs x sorted above) sorted

  not-above : (x y : X) → R y x ≡ Less → is_lt (R x y) ≡ false
  not-above x y less = ap is_lt (order.antisymm x y ∙ ap ordering_reverse less)

  pub placed-last : (xs : List X) (x : X) → AllByRecursion (λ y. R y x ≡ Less) xs → placed R x xs ≡ xs ++ x ∷ []
  placed-last xs x below =
      let all = filter-all (λ y. is_lt (R y x)) xs
      (All-weaker (λ y. R y x ≡ Less) (λ y. is_lt (R y x) ≡ true) (λ y less. ap is_lt less) xs below) in
      let none = filter-none (λ y. is_lt (R x y)) xs
      (All-weaker (λ y. R y x ≡ Less) (λ y. is_lt (R x y) ≡ false) (λ y less. not-above x y less) xs below) in
      λ i. all i ++ x ∷ none i

  placed-first : (x : X) (xs : List X) → AllByRecursion (λ y. R x y ≡ Less) xs → placed R x xs ≡ x ∷ xs
  placed-first x xs above =
      let none = filter-none (λ y. is_lt (R y x)) xs
      (All-weaker (λ y. R x y ≡ Less) (λ y. is_lt (R y x) ≡ false) (λ y less. not-above y x less) xs above) in
      let all = filter-all (λ y. is_lt (R x y)) xs
      (All-weaker (λ y. R x y ≡ Less) (λ y. is_lt (R x y) ≡ true) (λ y less. ap is_lt less) xs above) in
      λ i. none i ++ x ∷ all i

  -- a list that rises is what `rising` makes of it
  pub rising-same : (xs : List X) → IsStrictlySortedBy R xs → rising R xs ≡ xs
  rising-same [] sorted = refl
  rising-same (x ∷ xs) sorted =
      ap (placed R x) (rising-same xs (sorted_tail R x xs sorted)) ∙ placed-first x xs (sorted_head R x xs sorted)

-- ---- texts

and-true : (b : Bool) → (b && true) ≡ b
and-true true = refl
and-true false = refl

and-assoc : (a b c : Bool) → (a && (b && c)) ≡ ((a && b) && c)
and-assoc true b c = refl
and-assoc false b c = refl

pub are_rising-sorted : (names : List (List ℕ)) → are_rising names ≡ true → IsStrictlySortedBy text_cmp names
are_rising-sorted [] rise = rises-nil text_total
are_rising-sorted (name ∷ []) rise = rises-cons text_total name [] tt (rises-nil text_total)
are_rising-sorted (name ∷ next ∷ names) rise =
    let parts = and_parts (is_lt (text_cmp name next)) (are_rising (next ∷ names)) rise in
    let sorted = are_rising-sorted (next ∷ names) parts.1 in
    let less = is_lt-Less (text_cmp name next) parts.0 in
    rises-cons text_total name (next ∷ names) (
      less,
      All-weaker (λ other. text_cmp next other ≡ Less) (λ other. text_cmp name other ≡ Less)
          (λ other behind. text_total.trans name next other less behind) names (sorted_head text_cmp next names sorted),
    ) sorted

pub are_rising-snoc : (names : List (List ℕ)) (name : List ℕ)
    → are_rising (names ++ name ∷ []) ≡ (are_rising names && rises_above text_cmp names name)
are_rising-snoc [] name = refl
are_rising-snoc (first ∷ []) name = and-true (is_lt (text_cmp first name))
are_rising-snoc (first ∷ next ∷ names) name =
    ap (λ b. is_lt (text_cmp first next) && b) (are_rising-snoc (next ∷ names) name)
    ∙ and-assoc (is_lt (text_cmp first next)) (are_rising (next ∷ names)) (rises_above text_cmp (next ∷ names) name)
    ∙ ap (λ last. (is_lt (text_cmp first next) && are_rising (next ∷ names)) && is_above text_cmp last name)
    (sym (last_of-more first next names))

-- the first of names that rise do
pub are_rising-front : (front back : List (List ℕ)) → are_rising (front ++ back) ≡ true → are_rising front ≡ true
are_rising-front [] back rise = refl
are_rising-front (name ∷ []) back rise = refl
are_rising-front (name ∷ next ∷ front) back rise =
    let parts = and_parts (is_lt (text_cmp name next)) (are_rising (next ∷ (front ++ back))) rise in
    ap (λ b. b && are_rising (next ∷ front)) parts.0 ∙ are_rising-front (next ∷ front) back parts.1
