-- The numbers of the elements that pass a test.
use Rattle.std.proofs.Common.{◌≡◌, ℕ, suc, ◌+◌, ◌<◌, Bool, true, false, not, if◌then◌else◌, List, [], ◌∷◌, ◌++◌, map, length, refl, ap, ◌∙◌, arith}
use Rattle.std.specs.List.{prefix_len}
use Rattle.std.specs.Simd.Lanes.{mask_l}
use Rattle.lane_scan.specs.Rows.{numbers_from}
use Rattle.lane_scan.proofs.Masks.{without_first}

module _ {X : Type 0} (test : X → Bool) where
  pub numbers-append : (first : ℕ) (xs ys : List X)
      → numbers_from first test (xs ++ ys) ≡ numbers_from first test xs ++ numbers_from (first + length xs) test ys
  numbers-append first [] ys = ap (λ n. numbers_from n test ys) (let e : first ≡ first + 0 = omega arith in e)
  numbers-append first (x ∷ xs) ys =
      let rest : numbers_from (first + 1) test (xs ++ ys) ≡ numbers_from (first + 1) test xs ++ numbers_from (first + suc (length xs)) test ys =
      numbers-append (first + 1) xs ys
      ∙ ap (λ n. numbers_from (first + 1) test xs ++ numbers_from n test ys) (let e : first + 1 + length xs ≡ first + suc (length xs) = omega arith in e) in
      by (test x) rest
    where
      by : (b : Bool) → numbers_from (first + 1) test (xs ++ ys) ≡ numbers_from (first + 1) test xs ++ numbers_from (first + suc (length xs)) test ys
          → (if b then first ∷ numbers_from (first + 1) test (xs ++ ys) else numbers_from (first + 1) test (xs ++ ys))
          ≡ (if b then first ∷ numbers_from (first + 1) test xs else numbers_from (first + 1) test xs) ++ numbers_from (first + suc (length xs)) test ys
      by true rest = ap (λ l. first ∷ l) rest
      by false rest = rest

  -- tested first and numbered then
  pub numbers-map : (first : ℕ) (xs : List X) → numbers_from first (λ b. b) (map test xs) ≡ numbers_from first test xs
  numbers-map first [] = refl
  numbers-map first (x ∷ xs) = (λ i. if test x then first ∷ numbers-map (first + 1) xs i else numbers-map (first + 1) xs i)

-- the first of the tests that is true, and then the others
pub numbers-first : (first : ℕ) (tests : List Bool) → 0 < mask_l tests
    → numbers_from first (λ test. test) tests
    ≡ (first + prefix_len not tests) ∷ numbers_from first (λ test. test) (without_first tests)
numbers-first first [] some = absurd (omega arith)
numbers-first first (true ∷ tests) some = ap (λ n. n ∷ numbers_from (first + 1) (λ test. test) tests) (let e : first ≡ first + 0 = omega arith in e)
numbers-first first (false ∷ tests) some =
    numbers-first (first + 1) tests (omega arith)
    ∙ ap (λ n. n ∷ numbers_from (first + 1) (λ test. test) (without_first tests))
    (let e : first + 1 + prefix_len not tests ≡ first + (1 + prefix_len not tests) = omega arith in e)

-- where none is true
pub numbers-none : (first : ℕ) (tests : List Bool) → mask_l tests ≡ 0 → numbers_from first (λ test. test) tests ≡ []
numbers-none first [] none = refl
numbers-none first (true ∷ tests) none = absurd (omega arith)
numbers-none first (false ∷ tests) none = numbers-none (first + 1) tests (omega arith)
