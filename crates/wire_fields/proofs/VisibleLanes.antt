-- From the mask of a vector to bytes that may stand in a name, and from such bytes to a name.
use Rattle.std.proofs.Common.{◌≡◌, ℕ, suc, ◌+◌, ◌%◌, ◌^◌, ◌≤◌, Bool, true, false, not, ◌||◌, cond, ◌==◌, leb, ltb, eqb}
use Rattle.std.proofs.Common.{List, [], ◌∷◌, length, get_or, map, replicate, bit_or, Option, Some, None, position, refl}
use Rattle.std.proofs.Common.{sym, ap, ◌∙◌, arith}
use Rattle.std.proofs.lemmas.Bool.{le-ltb, eqb-true}
use Rattle.std.proofs.lemmas.Bool.Decides.{nat_tests}
use Rattle.std.proofs.lemmas.List.{length-map}
use Rattle.std.proofs.lemmas.Simd.{length-chunk, none_from_empty_mask, zip2_splat, zip2_splat_left, zip2_of_maps}
use Rattle.std.proofs.lemmas.Simd.{map-map, mask_l-mod}
use Rattle.std.specs.Bool.{OnTrue}
use Rattle.std.specs.Simd.Lanes.{chunk, mask_l, zip2, top}
use Rattle.cynara_keys.specs.Text.{is_visible}
use Rattle.cynara_keys.specs.Name.{name_fault, bad_byte_or, is_reserved}
use Rattle.cynara_keys.specs.declared.names.NameRefusal.TheVariants.{Empty, TooLong, Reserved}
use Rattle.app_registry.proofs.Texts.{NonePass, position-none}
use Rattle.wire_fields.specs.parts.Visible.{AreVisible}

-- ---- one lane

abbrev is_hidden : ℕ → Bool
is_hidden byte = not (is_visible byte)

abbrev at_most : ℕ → ℕ → ℕ
at_most a b = cond (leb a b) 255 0

abbrev same : ℕ → ℕ → ℕ
same a b = cond (eqb a b) 255 0

-- what the three tests make of a byte
abbrev lane : ℕ → ℕ
lane byte = bit_or (bit_or (at_most byte 32) (at_most 127 byte)) (same byte 59)

top_of_three : (a b c : Bool) → top 7 (bit_or (bit_or (cond a 255 0) (cond b 255 0)) (cond c 255 0)) ≡ a || (b || c)
top_of_three true true true = refl
top_of_three true true false = refl
top_of_three true false true = refl
top_of_three true false false = refl
top_of_three false true true = refl
top_of_three false true false = refl
top_of_three false false true = refl
top_of_three false false false = refl

hidden_by_tests : (byte : ℕ) → (leb byte 32 || (leb 127 byte || eqb byte 59)) ≡ is_hidden byte
hidden_by_tests byte = grind (arith, nat_tests)

top_of_lane : (byte : ℕ) → top 7 (lane byte) ≡ is_hidden byte
top_of_lane byte = top_of_three (leb byte 32) (leb 127 byte) (eqb byte 59) ∙ hidden_by_tests byte

-- ---- a vector of n lanes

tops_of_lanes : (bytes : List ℕ) → map (λ byte. top 7 (lane byte)) bytes ≡ map is_hidden bytes
tops_of_lanes [] = refl
tops_of_lanes (byte ∷ bytes) = λ i. top_of_lane byte i ∷ tops_of_lanes bytes i

abbrev mask_of : ℕ → List ℕ → ℕ
mask_of n v =
    mask_l (map (top 7) (zip2 bit_or (zip2 bit_or (zip2 at_most v (replicate n 32)) (zip2 at_most (replicate n 127) v))
    (zip2 same v (replicate n 59)))) % 2 ^ 64

mask_is : (n : ℕ) (v : List ℕ) → length v ≡ n → n ≤ 64 → mask_of n v ≡ mask_l (map is_hidden v)
mask_is n v long few =
    let ends = zip2_of_maps bit_or (λ byte. at_most byte 32) (λ byte. at_most 127 byte) v
    (zip2_splat at_most v n 32 long) (zip2_splat_left at_most 127 n v long) in
    let lanes = zip2_of_maps bit_or (λ byte. bit_or (at_most byte 32) (at_most 127 byte)) (λ byte. same byte 59) v
    ends (zip2_splat same v n 59 long) in
    ap (λ (l : List ℕ). mask_l (map (top 7) l) % 2 ^ 64) lanes
    ∙ ap (λ (l : List Bool). mask_l l % 2 ^ 64) (map-map (top 7) lane v ∙ tops_of_lanes v)
    ∙ mask_l-mod (map is_hidden v) 64 (omega (arith, length-map v is_hidden, long, few))

shown : (b : Bool) → not b ≡ false → b ≡ true
shown true h = refl
shown false h = absurd cc

on_true : (b : Bool) (P : Type 0) → (b ≡ true → P) → OnTrue b P
on_true true P f = f refl
on_true false P f = tt

pub visible_from_lanes : (bytes : List ℕ) (at n : ℕ) → at + n ≤ length bytes → n ≤ 64
    → OnTrue (mask_of n (chunk at n bytes) == 0) (AreVisible bytes at (at + n))
visible_from_lanes bytes at n room few =
    let v = chunk at n bytes in
    let is = mask_is n v (length-chunk at n bytes room) few in
    on_true (mask_of n v == 0) (AreVisible bytes at (at + n)) (λ e k low high.
    shown (is_visible (get_or bytes k 0))
    (none_from_empty_mask is_hidden bytes at n 0 room (sym is ∙ eqb-true _ 0 e) k low high))

-- ---- a name of four bytes or more

none_hidden : (bytes : List ℕ) → AreVisible bytes 0 (length bytes) → NonePass is_hidden bytes
none_hidden [] are = tt
none_hidden (byte ∷ bytes) are = (
  ap not (are 0 (omega arith) (omega arith)),
  none_hidden bytes (λ k low high. are (suc k) (omega arith) (omega arith)),
)

no_fault : (empty long reserved : Bool) (at : Option ℕ) → empty ≡ false → long ≡ false → at ≡ None → reserved ≡ false
    → cond empty (Some Empty) (cond long (Some TooLong) (bad_byte_or at (cond reserved (Some Reserved) None))) ≡ None
no_fault empty long reserved at e l a r = rw (e, l, a, r) refl

not_empty : (n : ℕ) → 4 ≤ n → eqb n 0 ≡ false
not_empty n some = grind (arith, nat_tests)

not_reserved : (bytes : List ℕ) → 4 ≤ length bytes → is_reserved bytes ≡ false
not_reserved [] some = absurd (omega arith)
not_reserved (byte ∷ []) some = absurd (omega arith)
not_reserved (byte ∷ next ∷ bytes) some = refl

name_from_visible : (bytes : List ℕ) → 4 ≤ length bytes → length bytes ≤ 255 → AreVisible bytes 0 (length bytes)
    → name_fault bytes ≡ None
name_from_visible bytes some few are =
    no_fault (eqb (length bytes) 0) (ltb 255 (length bytes)) (is_reserved bytes) (position is_hidden bytes)
    (not_empty (length bytes) some) (le-ltb 255 (length bytes) few)
    (position-none is_hidden bytes (none_hidden bytes are)) (not_reserved bytes some)

pub long_name : (b : Bool) (bytes : List ℕ) → 4 ≤ length bytes → length bytes ≤ 255
    → OnTrue b (AreVisible bytes 0 (length bytes)) → OnTrue b (name_fault bytes ≡ None)
long_name true bytes some few are = name_from_visible bytes some few are
long_name false bytes some few are = tt
