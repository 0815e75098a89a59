-- What the first least element of a list is.
use Rattle.std.proofs.Common.{◌≡◌, true, false, List, [], ◌∷◌, Option, Some, None, IfSome, refl, sym, ap, subst}
use Rattle.std.specs.declared.cmp.Ordering.{Ordering}
use Rattle.std.specs.declared.cmp.Ordering.TheVariants.{Less, Equal, Greater}
use Rattle.std.specs.Cmp.{IsTotalOrder}
use Rattle.std.specs.List.{AllByRecursion}
use Rattle.std.specs.Ordering.{is_gt, ordering_reverse, min_by_ordering}
use Rattle.std.proofs.lemmas.Cmp.{upto, tied_itself}
use mathlib.Core.Bool.{true≢false}
use Rattle.cynara_keys.specs.Minimum.{lesser, first_least}

module _ {X : Type 0} (cmp : X → X → Ordering) where
  lesser-either : (P : X → Type 0) (x : X) (other : Option X) → P x → IfSome other P → P (lesser cmp x other)
  lesser-either P x None own others = own
  lesser-either P x (Some other) own others =
      elim (cmp x other) as (λ order. P (min_by_ordering order x other)) [ Less ↦ own | Equal ↦ own | Greater ↦ others ]

  -- what holds of each element holds of the least
  pub first_least-all : (P : X → Type 0) (xs : List X) → AllByRecursion P xs → IfSome (first_least cmp xs) P
  first_least-all P [] all = tt
  first_least-all P (x ∷ xs) all = lesser-either P x (first_least cmp xs) all.0 (first_least-all P xs all.1)

  -- where there is none, the list is empty
  pub first_least-none : (xs : List X) → first_least cmp xs ≡ None → xs ≡ []
  first_least-none [] none = refl
  first_least-none (x ∷ xs) none = cc

  -- no element comes before this one
  abbrev pub NoneBefore : List X → X → Type 0
  NoneBefore xs x = AllByRecursion (λ other. is_gt (cmp x other) ≡ false) xs

module _ {X : Type 0} {cmp : X → X → Ordering} (order : IsTotalOrder cmp) where
  weaker : (x y : X) → is_gt (cmp x y) ≡ false → (xs : List X) → NoneBefore cmp xs y → NoneBefore cmp xs x
  weaker x y le [] all = tt
  weaker x y le (other ∷ xs) all = (upto order x y other le all.0, weaker x y le xs all.1)

  turned : (there back : Ordering) → there ≡ ordering_reverse back → is_gt back ≡ true → is_gt there ≡ false
  turned there Less reversed h = absurd (true≢false (sym h))
  turned there Equal reversed h = absurd (true≢false (sym h))
  turned there Greater reversed h = ap is_gt reversed

  before-lesser : (x : X) (xs : List X) (other : X) (is : Ordering) → cmp x other ≡ is → NoneBefore cmp xs other
      → NoneBefore cmp (x ∷ xs) (min_by_ordering is x other)
  before-lesser x xs other Less is rest = (ap is_gt (tied_itself order x), weaker x other (ap is_gt is) xs rest)
  before-lesser x xs other Equal is rest = (ap is_gt (tied_itself order x), weaker x other (ap is_gt is) xs rest)
  before-lesser x xs other Greater is rest =
      (turned (cmp other x) (cmp x other) (order.antisymm other x) (ap is_gt is), rest)

  before-first : (x : X) (xs : List X) (rest : Option X) → (rest ≡ None → xs ≡ []) → IfSome rest (NoneBefore cmp xs)
      → NoneBefore cmp (x ∷ xs) (lesser cmp x rest)
  before-first x xs None none before =
      (ap is_gt (tied_itself order x), subst (λ ys. NoneBefore cmp ys x) (sym (none refl)) tt)
  before-first x xs (Some other) none before = before-lesser x xs other (cmp x other) refl before

  -- no element comes before the least
  pub first_least-before : (xs : List X) → IfSome (first_least cmp xs) (NoneBefore cmp xs)
  first_least-before [] = tt
  first_least-before (x ∷ xs) =
      before-first x xs (first_least cmp xs) (first_least-none cmp xs) (first_least-before xs)
