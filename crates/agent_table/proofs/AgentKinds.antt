-- The kinds of numbers that rise.
use Rattle.std.proofs.Common.{◌≡◌, ℕ, List, [], ◌∷◌, map, Result, Ok, Err, IfOk, refl, sym, ap, subst}
use Rattle.std.proofs.lemmas.Map.Keys.{IsStrictlyIncreasing-from_sorted}
use Rattle.std.specs.List.Sorted.{IsStrictlyIncreasing}
use Rattle.std.specs.List.Sorted.{IsStrictlySortedBy}
use Rattle.std.specs.Ordering.{nat_cmp}
use Rattle.std.specs.declared.vec.Vec.{Vec}
use Rattle.std.specs.declared.alloc.Global.{Global}
use Rattle.cynara_keys.specs.declared.results.Kind.{Kind}
use Rattle.agent_table.specs.Table.{kinds_of, KindsRise}

numbers-back : (numbers : List ℕ) → map (λ (kind : Kind). kind.0) (kinds_of numbers) ≡ numbers
numbers-back [] = refl
numbers-back (number ∷ numbers) = ap (λ ns. number ∷ ns) (numbers-back numbers)

pub kinds_rise : {E : Type 0} (result : Result (Vec Kind Global) E) (numbers : List ℕ)
    → IfOk result (λ kinds. kinds.items ≡ kinds_of numbers) → IsStrictlySortedBy nat_cmp numbers
    → IfOk result (λ kinds. KindsRise kinds.items)
kinds_rise (Ok kinds) numbers are sorted =
    subst KindsRise (sym are)
    (subst IsStrictlyIncreasing (sym (numbers-back numbers)) (IsStrictlyIncreasing-from_sorted numbers sorted))
kinds_rise (Err error) numbers are sorted = tt
