-- What a binary search by an order needs: along a sorted list, the answers of the elements to one key rise.
use Rattle.std.proofs.Common.{◌≡◌, ℕ, ◌<◌, ◌≤◌, false, List, length, get_or, sym, ap, ◌∙◌, arith, refl}
use mathlib.Core.Logic.{⊎_elim}
use Rattle.std.proofs.lemmas.Bool.{cases_lt}
use mathlib.Core.Bool.{true≢false}
use Rattle.std.specs.declared.cmp.Ordering.{Ordering}
use Rattle.std.specs.declared.cmp.Ordering.TheVariants.{Less, Equal, Greater}
use Rattle.std.specs.Cmp.{IsTotalOrder}
use Rattle.std.specs.List.Sorted.{IsSortedByKey, IsNonDecreasingBy, IsPartitionPoint}
use Rattle.std.specs.Ordering.{is_eq, is_lt, is_gt, ordering_index, ordering_reverse}
use Rattle.std.proofs.lemmas.Cmp.{upto, alike_right}
use Rattle.std.proofs.lemmas.List.Sorted.{IsNonDecreasingBy-from_all_adjacent}

is_gt-reverse : (r : Ordering) → is_gt (ordering_reverse r) ≡ is_lt r
is_gt-reverse Less = refl
is_gt-reverse Equal = refl
is_gt-reverse Greater = refl

module _ {K : Type 0} {R : K → K → Ordering} (order : IsTotalOrder R) where
  rises : (x y key : K) (r s : Ordering) → R x key ≡ r → R y key ≡ s → is_lt (R y x) ≡ false → ordering_index r ≤ ordering_index s
  rises x y key Less s at next h = omega arith
  rises x y key Equal Less at next h = absurd (true≢false (ap is_lt (sym next ∙ sym (alike_right order x key y at)) ∙ h))
  rises x y key Equal Equal at next h = omega arith
  rises x y key Equal Greater at next h = omega arith
  rises x y key Greater Less at next h =
      absurd (true≢false (ap is_gt (sym at)
      ∙ upto order x y key (ap is_gt (order.antisymm x y) ∙ is_gt-reverse (R y x) ∙ h) (ap is_gt next)))
  rises x y key Greater Equal at next h =
      absurd (true≢false (ap is_gt (sym at)
      ∙ upto order x y key (ap is_gt (order.antisymm x y) ∙ is_gt-reverse (R y x) ∙ h) (ap is_gt next)))
  rises x y key Greater Greater at next h = omega arith

  -- the elements of xs ascend by the keys that f reads
  pub answers_rise : {X : Type 0} (f : X → K) (xs : List X) → IsSortedByKey f R xs → (key : K)
      → IsNonDecreasingBy (λ x. ordering_index (R (f x) key)) xs
  answers_rise f xs sorted key =
      IsNonDecreasingBy-from_all_adjacent (λ x. ordering_index (R (f x) key)) xs
      (λ k d below. rises _ _ key _ _ refl refl (sorted k d (omega arith) below))

-- between the lesser and the greater elements none is equal
pub none_equal : {X : Type 0} (answer : X → Ordering) (xs : List X) (at : ℕ)
    → IsPartitionPoint (λ x. answer x ≡ Less) (λ x. answer x ≡ Greater) xs at → (k : ℕ) (d : X) → k < length xs
    → is_eq (answer (get_or xs k d)) ≡ false
none_equal answer xs at split k d within =
    ⊎_elim (λ below. ap is_eq (split.0 k d (omega arith) below)) (λ from. ap is_eq (split.1 k d from within)) (cases_lt k at)
