-- The numbers of set bits, taken off one by one.
use Rattle.std.proofs.Common.{◌≡◌, ℕ, ◌+◌, ◌-◌, ◌<◌, ◌≤◌, Bool, not, List, [], ◌∷◌, ◌++◌, map, length, refl, sym, ap, ◌∙◌, arith, append_assoc, bit_and, subst, append-nil}
use Rattle.std.specs.List.{prefix_len}
use Rattle.std.specs.Simd.Lanes.{mask_l}
use lib.Count.{count_trailing_zeros}
use Rattle.std.proofs.lemmas.Simd.{trailing_mask_l}
use Rattle.lane_scan.specs.Rows.{numbers_from}
use Rattle.lane_scan.proofs.Masks.{without_first, length-without_first, mask-without_first}
use Rattle.lane_scan.proofs.Numbers.{numbers-first, numbers-none}

-- the bits that are left stand for tests whose numbers, behind those that were found, make the whole
pub record IsLeft (left first : ℕ) (found whole : List ℕ) : Type 0 where
  pub tests : List Bool
  pub is : left ≡ mask_l tests
  pub short : length tests ≤ 64
  pub joins : found ++ numbers_from first (λ test. test) tests ≡ whole

unmapped : (tests : List Bool) → map (λ test. test) tests ≡ tests
unmapped [] = refl
unmapped (test ∷ tests) = ap (λ l. test ∷ l) (unmapped tests)

lowest : (tests : List Bool) → length tests ≤ 64 → 0 < mask_l tests → count_trailing_zeros 64 (mask_l tests) ≡ prefix_len not tests
lowest tests short some =
    let e = unmapped tests in
    ap (λ l. count_trailing_zeros 64 (mask_l l)) (sym e)
    ∙ trailing_mask_l (λ test. test) 64 tests short (subst (λ l. 0 < mask_l l) (sym e) some)

pub IsLeft-next : {left first : ℕ} {found whole : List ℕ} → IsLeft left first found whole → 0 < left
    → IsLeft (bit_and left (left - 1)) first (found ++ (first + count_trailing_zeros 64 left) ∷ []) whole
IsLeft-next {left} {first} {found} {whole} h some =
    let more : 0 < mask_l h.tests = omega (arith, h.is) in
    record {
      tests = without_first h.tests;
      is = ap (λ n. bit_and n (n - 1)) h.is ∙ mask-without_first h.tests more;
      short = omega (arith, h.short, length-without_first h.tests);
      joins =
          append_assoc found ((first + count_trailing_zeros 64 left) ∷ []) (numbers_from first (λ test. test) (without_first h.tests))
          ∙ ap (λ n. found ++ (first + n) ∷ numbers_from first (λ test. test) (without_first h.tests))
          (ap (count_trailing_zeros 64) h.is ∙ lowest h.tests h.short more)
          ∙ ap (λ l. found ++ l) (sym (numbers-first first h.tests more))
          ∙ h.joins;
    }

pub IsLeft-end : {left first : ℕ} {found whole : List ℕ} → IsLeft left first found whole → left ≡ 0 → found ≡ whole
IsLeft-end {left} {first} {found} {whole} h none =
    sym (append-nil found)
    ∙ ap (λ l. found ++ l) (sym (numbers-none first h.tests (sym h.is ∙ none)))
    ∙ h.joins
