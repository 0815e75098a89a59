-- Whether there is a first that passes, and whether any passes.
use Rattle.std.proofs.Common.{◌≡◌, ℕ, ◌+◌, ◌<◌, ◌≤◌, suc, Bool, true, false, not, ◌||◌, cond, nat_lt, refl, arith, List, [], ◌∷◌, length, Some, None}
use Rattle.std.specs.List.{list_any, position, position_or_len}
use Rattle.std.proofs.lemmas.Bool.{ltb-false, ltb-true}

module _ {X : Type 0} (p : X → Bool) where
  past : (xs : List X) → length xs ≤ position_or_len p xs → list_any p xs ≡ false
  past [] le = refl
  past (x ∷ xs) le = by-case (p x) le (past xs)
    where
      by-case : (b : Bool) → suc (length xs) ≤ cond (not b) (1 + position_or_len p xs) 0
          → (length xs ≤ position_or_len p xs → list_any p xs ≡ false) → (b || list_any p xs) ≡ false
      by-case true less rest = absurd (omega (arith, less))
      by-case false less rest = rest (omega (arith, less))

  -- where there is no first, none passes
  pub none-passes : (xs : List X) → position p xs ≡ None → list_any p xs ≡ false
  none-passes xs none = by-case (nat_lt (position_or_len p xs) (length xs)) refl none
    where
      by-case : (less : Bool) → nat_lt (position_or_len p xs) (length xs) ≡ less
          → cond less (Some (position_or_len p xs)) None ≡ None → list_any p xs ≡ false
      by-case true lt some = cc
      by-case false lt some = past xs (ltb-false _ _ lt)

  reached : (xs : List X) → position_or_len p xs < length xs → list_any p xs ≡ true
  reached [] less = absurd (omega arith)
  reached (x ∷ xs) less = by-case (p x) less (reached xs)
    where
      by-case : (b : Bool) → cond (not b) (1 + position_or_len p xs) 0 < suc (length xs)
          → (position_or_len p xs < length xs → list_any p xs ≡ true) → (b || list_any p xs) ≡ true
      by-case true less rest = refl
      by-case false less rest = rest (omega (arith, less))

  -- and where there is one, one passes
  pub some-passes : (xs : List X) (k : ℕ) → position p xs ≡ Some k → list_any p xs ≡ true
  some-passes xs k some = by-case (nat_lt (position_or_len p xs) (length xs)) refl some
    where
      by-case : (less : Bool) → nat_lt (position_or_len p xs) (length xs) ≡ less
          → cond less (Some (position_or_len p xs)) None ≡ Some k → list_any p xs ≡ true
      by-case true lt some = reached xs (ltb-true _ _ lt)
      by-case false lt some = cc
