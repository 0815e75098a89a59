-- Masks of tests: the bit of each is set where the test is true.
use Rattle.std.proofs.Common.{◌≤◌, eqb, replicate, ◌%◌, ◌≡◌, ℕ, suc, ◌+◌, ◌-◌, ◌*◌, ◌^◌, ◌<◌, Bool, true, false, ◌&&◌, ◌||◌, cond, List, [], ◌∷◌, map, length, bit_and, bit_or, refl, sym, ap, ◌∙◌, arith}
use Rattle.std.proofs.lemmas.Nat.{and_block}
use Rattle.std.proofs.lemmas.Nat.Bits.{same_from_bits, bit_at_and}
use Rattle.std.proofs.lemmas.List.{length-map}
use Rattle.std.proofs.lemmas.Simd.{mask_l-mod}
use Rattle.std.specs.Simd.Lanes.{top, mask_l, zip2}
use Rattle.lane_scan.specs.Rows.{Row}
use Rattle.lane_scan.specs.parts.Columns.{rows_of}

abbrev bit : Bool → ℕ
bit b = cond b 1 0

bit_small : (b : Bool) → bit b < 2 ^ 1
bit_small true = omega arith
bit_small false = omega arith

and_bits : (a b : Bool) → bit_and (bit a) (bit b) ≡ bit (a && b)
and_bits true true = refl
and_bits true false = refl
and_bits false true = refl
and_bits false false = refl

-- a bit below a number
abbrev on_bit : ℕ → ℕ → ℕ
on_bit low high = low + 2 * high

as_block : (low high : ℕ) → on_bit low high ≡ high * 2 ^ 1 + low
as_block low high = omega arith

and_on_bits : (a b : Bool) (m n : ℕ) → bit_and (on_bit (bit a) m) (on_bit (bit b) n) ≡ on_bit (bit (a && b)) (bit_and m n)
and_on_bits a b m n =
    (λ i. bit_and (as_block (bit a) m i) (as_block (bit b) n i))
    ∙ and_block 1 m n (bit a) (bit b) (bit_small a) (bit_small b)
    ∙ ap (λ low. bit_and m n * 2 ^ 1 + low) (and_bits a b)
    ∙ sym (as_block (bit (a && b)) (bit_and m n))

-- each of three columns under a test of its own, as one test of the rows
pub mask-rows : (p q r : ℕ → Bool) (xs ys zs : List ℕ) → length ys ≡ length xs → length zs ≡ length xs
    → bit_and (mask_l (map p xs)) (bit_and (mask_l (map q ys)) (mask_l (map r zs)))
    ≡ mask_l (map (λ (row : Row). p row.client && (q row.user && r row.privilege)) (rows_of xs ys zs))
mask-rows p q r [] [] [] e f = refl
mask-rows p q r [] (y ∷ ys) zs e f = absurd (omega arith)
mask-rows p q r [] [] (z ∷ zs) e f = absurd (omega arith)
mask-rows p q r (x ∷ xs) [] zs e f = absurd (omega arith)
mask-rows p q r (x ∷ xs) (y ∷ ys) [] e f = absurd (omega arith)
mask-rows p q r (x ∷ xs) (y ∷ ys) (z ∷ zs) e f =
    let m = mask_l (map p xs) in
    let n = mask_l (map q ys) in
    let o = mask_l (map r zs) in
    ap (bit_and (on_bit (bit (p x)) m)) (and_on_bits (q y) (r z) n o)
    ∙ and_on_bits (p x) (q y && r z) m (bit_and n o)
    ∙ ap (on_bit (bit (p x && (q y && r z)))) (mask-rows p q r xs ys zs (omega arith) (omega arith))

-- where every test is true
pub mask-all : (xs : List ℕ) → mask_l (map (λ (_ : ℕ). true) xs) + 1 ≡ 2 ^ length xs
mask-all [] = refl
mask-all (x ∷ xs) = grind (arith, mask-all xs)

-- the tests without the first that is true
abbrev pub without_first : List Bool → List Bool
without_first [] = []
without_first (true ∷ tests) = false ∷ tests
without_first (false ∷ tests) = false ∷ without_first tests

pub length-without_first : (tests : List Bool) → length (without_first tests) ≡ length tests
length-without_first [] = refl
length-without_first (true ∷ tests) = refl
length-without_first (false ∷ tests) = ap suc (length-without_first tests)

and_self : (n : ℕ) → bit_and n n ≡ n
and_self n = same_from_bits (bit_and n n) n (λ i. omega (arith, bit_at_and n n i))

-- `left & (left - 1)`
pub mask-without_first : (tests : List Bool) → 0 < mask_l tests
    → bit_and (mask_l tests) (mask_l tests - 1) ≡ mask_l (without_first tests)
mask-without_first [] some = absurd (omega arith)
mask-without_first (true ∷ tests) some =
    ap (bit_and (1 + 2 * mask_l tests)) (let e : 1 + 2 * mask_l tests - 1 ≡ 0 + 2 * mask_l tests = omega arith in e)
    ∙ and_on_bits true false (mask_l tests) (mask_l tests)
    ∙ ap (λ n. 0 + 2 * n) (and_self (mask_l tests))
mask-without_first (false ∷ tests) some =
    let more : 0 < mask_l tests = omega arith in
    ap (bit_and (0 + 2 * mask_l tests)) (let e : 0 + 2 * mask_l tests - 1 ≡ 1 + 2 * (mask_l tests - 1) = omega arith in e)
    ∙ and_on_bits false true (mask_l tests) (mask_l tests - 1)
    ∙ ap (λ n. 0 + 2 * n) (mask-without_first tests more)

-- a lane of a comparison
abbrev lane : ℕ → ℕ → ℕ
lane x y = cond (eqb x y) (2 ^ 32 - 1) 0

top_either : (t u : Bool) → top 31 (bit_or (cond t (2 ^ 32 - 1) 0) (cond u (2 ^ 32 - 1) 0)) ≡ t || u
top_either true true = refl
top_either true false = refl
top_either false true = refl
top_either false false = refl

tops_either : (a b : ℕ) (xs : List ℕ)
    → map (top 31) (zip2 bit_or (zip2 lane xs (replicate (length xs) a)) (zip2 lane xs (replicate (length xs) b)))
    ≡ map (λ x. eqb x a || eqb x b) xs
tops_either a b [] = refl
tops_either a b (x ∷ xs) = (λ i. top_either (eqb x a) (eqb x b) i ∷ tops_either a b xs i)

-- `to_bitmask` of two comparisons, either of which may hold
pub mask-either : (a b n : ℕ) (xs : List ℕ) → length xs ≡ n → n ≤ 64
    → mask_l (map (top 31) (zip2 bit_or (zip2 lane xs (replicate n a)) (zip2 lane xs (replicate n b)))) % 2 ^ 64
    ≡ mask_l (map (λ x. eqb x a || eqb x b) xs)
mask-either a b n xs long small =
    let tests : List Bool = map (λ x. eqb x a || eqb x b) xs in
    ap (λ k. mask_l (map (top 31) (zip2 bit_or (zip2 lane xs (replicate k a)) (zip2 lane xs (replicate k b)))) % 2 ^ 64) (sym long)
    ∙ ap (λ l. mask_l l % 2 ^ 64) (tops_either a b xs)
    ∙ mask_l-mod tests 64 (omega (arith, length-map xs (λ x. eqb x a || eqb x b), long, small))
