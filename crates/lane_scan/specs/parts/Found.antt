-- What a scan leaves in its list.
use Rattle.std.specs.Prelude.{◌≡◌, ℕ, ◌≤◌, Bool, List, ◌++◌, length}
use Rattle.std.specs.Simd.Lanes.{mask_l}
use Rattle.lane_scan.specs.Rows.{numbers_from}

-- the list with some more at its end
pub record IsLonger (old new : List ℕ) : Type 0 where
  pub more : List ℕ
  pub is : new ≡ old ++ more

-- the numbers of the set bits follow, where the first bit has this number
abbrev pub HasMarked : ℕ → ℕ → List ℕ → List ℕ → Type 0
HasMarked marks first old new =
    (tests : List Bool) → marks ≡ mask_l tests → length tests ≤ 64
    → new ≡ old ++ numbers_from first (λ test. test) tests
