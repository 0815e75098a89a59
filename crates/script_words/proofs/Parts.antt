-- How a list is cut at the first element that passes a test.
use Rattle.std.proofs.Common.{◌≡◌, ℕ, ◌+◌, Bool, true, false, cond, ltb, List, [], ◌∷◌, length, take, drop, Some, None}
use Rattle.std.proofs.Common.{position, refl, subst, arith}
use Rattle.std.specs.List.{slice_split, position_or_len}
use Rattle.std.proofs.lemmas.Bool.{ltb-true, ltb-false}
use Rattle.std.proofs.lemmas.Option.{cond_some}
use Rattle.std.proofs.lemmas.List.Splits.{slice_split_first, slice_split_none}
use Rattle.std.proofs.lemmas.List.Sums.{fails_before_first}

cond_none : (b : Bool) (x : ℕ) → cond b (Some x) None ≡ None → b ≡ false
cond_none true x h = cc
cond_none false x h = refl

-- the part before the first that passes, and those behind it
pub slice_split-position : (p : ℕ → Bool) (xs : List ℕ) (i : ℕ) → position p xs ≡ Some i
    → slice_split p xs ≡ take i xs ∷ slice_split p (drop (i + 1) xs)
slice_split-position p xs i h =
    let place = cond_some (ltb (position_or_len p xs) (length xs)) _ _ h in
    let Cut : ℕ → Type 0 = λ n. slice_split p xs ≡ take n xs ∷ slice_split p (drop (n + 1) xs) in
    subst Cut place.1 (slice_split_first p xs 0 (ltb-true _ _ place.0))

-- where none passes, the list is the one part
pub slice_split-no_position : (p : ℕ → Bool) (xs : List ℕ) → position p xs ≡ None → slice_split p xs ≡ xs ∷ []
slice_split-no_position p xs h =
    let past = ltb-false _ _ (cond_none (ltb (position_or_len p xs) (length xs)) _ h) in
    slice_split_none p xs (λ k d below. fails_before_first p xs k d (omega (arith, past)))
