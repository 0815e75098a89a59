-- Numbers have one spelling.
use Rattle.std.proofs.Common.{◌≡◌, ℕ, zero, suc, ◌-◌, ◌≤◌, ◌<◌, ◌^◌, ◌&&◌, ◌==◌, ◌+◌, ◌/◌, ◌%◌, [], ◌∷◌, Bool, true}
use Rattle.std.proofs.Common.{false, cond, List, ◌++◌, Option, Some, None, Result, Ok, Err, get_or, ◌≢◌, nat_lt, subst}
use Rattle.std.proofs.Common.{rules, drop, decimal, codes, nat_le, refl, ap, ◌∙◌, sym, arith}
use Rattle.std.specs.Fmt.{digits, digits_onto, digit_glyph}
use mathlib.Core.Logic.{⊎_elim}
use Rattle.std.specs.Str.{IsAscii, IsUtf8}
use Rattle.std.specs.Result.{OkIff}
use Rattle.std.specs.Str.Parse.{digits_value, IsNumeral, ParsesUnsigned, without_leading_plus}
use Rattle.std.proofs.lemmas.Str.{IsUtf8-append, IsUtf8-from_ascii}
use Rattle.std.proofs.lemmas.Str.Parse.{without_leading_plus_none}
use Rattle.std.proofs.lemmas.Bool.{and_parts, leb-true, le-leb, cases_lt, eq-eqb, ne_eqb}
use Rattle.std.proofs.lemmas.Fmt.{digits_is_IsNumeral, hex_one_digit}
use Rattle.cynara_keys.specs.Text.{same_text}
use Rattle.cynara_keys.proofs.Order.{same_text-≡, ≡-same_text}
use Rattle.set_text.specs.Numbers.{spelt_as, decimal_of, kind_text, kind_of, last_kind}

some-from : (b : Bool) (x y : ℕ) → cond b (Some x) None ≡ Some y → (b ≡ true) × (x ≡ y)
some-from true x y h = (refl, cc)
some-from false x y h = cc

-- the number that a text gives has the text as its spelling
pub spelt_as-text : (spell : ℕ → List ℕ) (most : ℕ) (text : List ℕ) (number value : ℕ)
    → spelt_as spell most text number ≡ Some value
    → (spell value ≡ text) × (value ≤ most)
spelt_as-text spell most text number value h =
    let parts = some-from (nat_le number most && same_text (spell number) text) number value h in
    let both = and_parts (nat_le number most) (same_text (spell number) text) parts.0 in
    (ap spell (sym parts.1) ∙ same_text-≡ (spell number) text both.1, rw (sym parts.1) (leb-true number most both.0))

pub spelt_as-spelling : (spell : ℕ → List ℕ) (most value : ℕ) → nat_le value most ≡ true
    → spelt_as spell most (spell value) value ≡ Some value
spelt_as-spelling spell most value small = rw (small, ≡-same_text (spell value) (spell value) refl) refl

-- the text that a number is spelled as gives the number
pub decimal_of-decimal : (most value : ℕ) → nat_le value most ≡ true → value < 2 ^ 64
    → decimal_of most (decimal value) ≡ Some value
decimal_of-decimal most value small fits =
    ap (spelt_as decimal most (decimal value))
    (digits_is_IsNumeral 10 false (omega arith) (omega arith) value (omega arith)).1
    ∙ spelt_as-spelling decimal most value small

pub decimal_of-text : (most : ℕ) (text : List ℕ) (value : ℕ) → decimal_of most text ≡ Some value
    → (decimal value ≡ text) × (value ≤ most)
decimal_of-text most text value is = spelt_as-text decimal most text (digits_value 10 text) value is

pub none-from : (option : Option ℕ) → ((value : ℕ) → option ≡ Some value → ⊥) → option ≡ None
none-from None never = refl
none-from (Some value) never = absurd (never value refl)

-- ---- hexadecimal

digits_onto-nil : (n : ℕ) → digits_onto 64 16 false n [] ≡ digits 16 false n
unfolding digits
digits_onto-nil n = refl

onto_by : (k n : ℕ) (acc : List ℕ) (b : Bool) → (n / 16 == 0) ≡ b → digits_onto (suc k) 16 false n acc
    ≡ cond b (digit_glyph false (n % 16) ∷ acc) (digits_onto k 16 false (n / 16) (digit_glyph false (n % 16) ∷ acc))
onto_by k n acc b is =
    ap (λ b. cond b (digit_glyph false (n % 16) ∷ acc)
    (digits_onto k 16 false (n / 16) (digit_glyph false (n % 16) ∷ acc))) is

onto_last : (n : ℕ) (acc : List ℕ) (i : ℕ) → 0 < i → n < 16
    → digits_onto i 16 false n acc ≡ digit_glyph false (n % 16) ∷ acc
onto_last n acc zero some small = absurd (omega arith)
onto_last n acc (suc k) some small = onto_by k n acc true (eq-eqb (n / 16) 0 (omega arith))

onto_step : (n : ℕ) (acc : List ℕ) (i : ℕ) → 0 < i → 16 ≤ n
    → digits_onto i 16 false n acc ≡ digits_onto (i - 1) 16 false (n / 16) (digit_glyph false (n % 16) ∷ acc)
onto_step n acc zero some large = absurd (omega arith)
onto_step n acc (suc k) some large =
    onto_by k n acc false (ne_eqb (n / 16) 0 (λ e. omega arith))
    ∙ ap (λ (j : ℕ). digits_onto j 16 false (n / 16) (digit_glyph false (n % 16) ∷ acc)) {x = k} {y = suc k - 1}
    (omega arith)

hex_more : (m x : ℕ) → m < 4096 → digits_onto 63 16 false m (x ∷ []) ≡ digits 16 false m ++ x ∷ []
hex_more m x small = ⊎_elim one (λ a. ⊎_elim (two a) (λ b. three b) (cases_lt m 256)) (cases_lt m 16)
  where
    nil : digits_onto 64 16 false m [] ≡ digits 16 false m
    nil = digits_onto-nil m

    one : m < 16 → digits_onto 63 16 false m (x ∷ []) ≡ digits 16 false m ++ x ∷ []
    one low =
        onto_last m (x ∷ []) 63 (omega arith) (omega arith)
        ∙ sym (ap (λ ds. ds ++ x ∷ []) (sym nil ∙ onto_last m [] 64 (omega arith) (omega arith)))

    two : 16 ≤ m → m < 256 → digits_onto 63 16 false m (x ∷ []) ≡ digits 16 false m ++ x ∷ []
    two high low =
        onto_step m (x ∷ []) 63 (omega arith) (omega arith)
        ∙ onto_last (m / 16) (digit_glyph false (m % 16) ∷ x ∷ []) 62 (omega arith) (omega arith)
        ∙ sym (ap (λ ds. ds ++ x ∷ []) (sym nil
        ∙ onto_step m [] 64 (omega arith) (omega arith)
        ∙ onto_last (m / 16) (digit_glyph false (m % 16) ∷ []) 63 (omega arith) (omega arith)))

    three : 256 ≤ m → digits_onto 63 16 false m (x ∷ []) ≡ digits 16 false m ++ x ∷ []
    three high =
        onto_step m (x ∷ []) 63 (omega arith) (omega arith)
        ∙ onto_step (m / 16) (digit_glyph false (m % 16) ∷ x ∷ []) 62 (omega arith) (omega arith)
        ∙ onto_last (m / 16 / 16) (digit_glyph false (m / 16 % 16) ∷ digit_glyph false (m % 16) ∷ x ∷ []) 61
        (omega arith) (omega arith)
        ∙ sym (ap (λ ds. ds ++ x ∷ []) (sym nil
        ∙ onto_step m [] 64 (omega arith) (omega arith)
        ∙ onto_step (m / 16) (digit_glyph false (m % 16) ∷ []) 63 (omega arith) (omega arith)
        ∙ onto_last (m / 16 / 16) (digit_glyph false (m / 16 % 16) ∷ digit_glyph false (m % 16) ∷ []) 62 (omega arith)
        (omega arith)))

-- the digits of a number of two digits or more: those of all but the last, and the last
pub hex_step : (n : ℕ) → 16 ≤ n → n < 65536
    → digits 16 false n ≡ digits 16 false (n / 16) ++ digit_glyph false (n % 16) ∷ []
hex_step n large small =
    sym (digits_onto-nil n)
    ∙ onto_step n [] 64 (omega arith) (omega arith)
    ∙ hex_more (n / 16) (digit_glyph false (n % 16)) (omega arith)

pub hex_last : (n : ℕ) → n < 16 → digits 16 false n ≡ digit_glyph false (n % 16) ∷ []
hex_last n small = hex_one_digit false n small ∙ ap (λ d. digit_glyph false d ∷ []) (omega arith)

-- texts that end with a byte are the same where what is before it is, and it is
pub same_text-last : (xs ys : List ℕ) (x y : ℕ)
    → same_text (xs ++ x ∷ []) (ys ++ y ∷ []) ≡ (same_text xs ys && (x == y))
same_text-last [] [] x y = elim (x == y) as (λ b. (b && true) ≡ b) [ true ↦ refl | false ↦ refl ]
same_text-last [] (b ∷ []) x y = elim (x == b) as (λ t. (t && false) ≡ false) [ true ↦ refl | false ↦ refl ]
same_text-last [] (b ∷ c ∷ ys) x y = elim (x == b) as (λ t. (t && false) ≡ false) [ true ↦ refl | false ↦ refl ]
same_text-last (a ∷ []) [] x y = elim (a == y) as (λ t. (t && false) ≡ false) [ true ↦ refl | false ↦ refl ]
same_text-last (a ∷ c ∷ xs) [] x y = elim (a == y) as (λ t. (t && false) ≡ false) [ true ↦ refl | false ↦ refl ]
same_text-last (a ∷ xs) (b ∷ ys) x y =
    ap (λ t. (a == b) && t) (same_text-last xs ys x y)
    ∙ elim (a == b) as (λ t. (t && (same_text xs ys && (x == y)))
    ≡ ((t && same_text xs ys) && (x == y))) [ true ↦ refl | false ↦ refl ]

pub kind_of-text : (text : List ℕ) (value : ℕ) → kind_of text ≡ Some value
    → (kind_text value ≡ text) × (value ≤ last_kind)
kind_of-text text value is = spelt_as-text kind_text last_kind text (digits_value 16 (drop 2 text)) value is

-- the text that a kind is spelled as gives the kind
pub kind_of-kind_text : (value : ℕ) → value ≤ 65535 → kind_of (kind_text value) ≡ Some value
kind_of-kind_text value small =
    ap (spelt_as kind_text last_kind (kind_text value))
    (digits_is_IsNumeral 16 false (omega arith) (omega arith) value (omega arith)).1
    ∙ spelt_as-spelling kind_text last_kind value (le-leb value last_kind small)

-- ---- what the digits are

pub hex_by : (P : List ℕ → Type 0) → ((d : ℕ) → d < 16 → P (digit_glyph false d ∷ []))
    → ((ds : List ℕ) (d : ℕ) → d < 16 → P ds → P (ds ++ digit_glyph false d ∷ []))
    → (k n : ℕ) → n ≤ k → n < 65536 → P (digits 16 false n)
hex_by P one more zero n few small = subst P (sym (hex_last n (omega arith))) (one (n % 16) (omega arith))
hex_by P one more (suc k) n few small = ⊎_elim
    (λ low. subst P (sym (hex_last n low)) (one (n % 16) (omega arith)))
    (λ high. subst P (sym (hex_step n high small))
    (more (digits 16 false (n / 16)) (n % 16) (omega arith) (hex_by P one more k (n / 16) (omega arith) (omega arith))))
    (cases_lt n 16)

glyph_small : (b : Bool) (d : ℕ) → d < 16 → cond b (48 + d) (87 + d) < 128
glyph_small true d small = omega arith
glyph_small false d small = omega arith

glyph_digit : (b : Bool) (d : ℕ) → 48 ≤ cond b (48 + d) (87 + d)
glyph_digit true d = omega arith
glyph_digit false d = omega arith

one_ascii : (byte : ℕ) → byte < 128 → IsAscii (byte ∷ [])
one_ascii byte small zero = small
one_ascii byte small (suc i) = omega arith

pub hex-IsUtf8 : (n : ℕ) → n < 65536 → IsUtf8 (kind_text n)
hex-IsUtf8 n small =
    IsUtf8-append (codes "0x") (digits 16 false n) (IsUtf8-from_ascii (codes "0x") (search rules))
    (hex_by IsUtf8
    (λ d low. IsUtf8-from_ascii (digit_glyph false d ∷ [])
    (one_ascii (digit_glyph false d) (glyph_small (nat_lt d 10) d low)))
    (λ ds d low text. IsUtf8-append ds (digit_glyph false d ∷ []) text
    (IsUtf8-from_ascii (digit_glyph false d ∷ []) (one_ascii (digit_glyph false d) (glyph_small (nat_lt d 10) d low))))
    n n (omega arith) small)

abbrev BeginsWithDigit : List ℕ → Type 0
BeginsWithDigit [] = ⊥
BeginsWithDigit (byte ∷ bytes) = 48 ≤ byte

more_digits : (ds : List ℕ) (d : ℕ) → BeginsWithDigit ds → BeginsWithDigit (ds ++ d ∷ [])
more_digits [] d begins = absurd begins
more_digits (byte ∷ bytes) d begins = begins

no_plus : (ds : List ℕ) → BeginsWithDigit ds → get_or ds 0 0 ≢ 43
no_plus [] begins is = absurd begins
no_plus (byte ∷ bytes) begins is = omega (arith, begins, is)

hex_begins : (n : ℕ) → n < 65536 → BeginsWithDigit (digits 16 false n)
hex_begins n small =
    hex_by BeginsWithDigit (λ d low. glyph_digit (nat_lt d 10) d)
    (λ ds d low begins. more_digits ds (digit_glyph false d) begins) n n
    (omega arith) small

-- reading the digits of a kind gives the kind
pub parses_hex : {E : Type 0} (n : ℕ) (ds : List ℕ) (r : Result ℕ E) → n < 65536 → ds ≡ digits 16 false n
    → ParsesUnsigned 16 16 ds r
    → r ≡ Ok n
parses_hex {E} n ds r small is parses =
    let numeral = digits_is_IsNumeral 16 false (omega arith) (omega arith) n (omega arith) in
    let plain : without_leading_plus (digits 16 false n) ≡ digits 16 false n =
    without_leading_plus_none (digits 16 false n) (no_plus (digits 16 false n) (hex_begins n small)) in
    by r (subst (λ (l : List ℕ). OkIff r (IsNumeral 16 l × (digits_value 16 l < 2 ^ 16)) (digits_value 16 l))
    (ap without_leading_plus is ∙ plain) parses)
  where
    by : (q : Result ℕ E) → OkIff q (IsNumeral 16 (digits 16 false n) × (digits_value 16 (digits 16 false n) < 2 ^ 16))
        (digits_value 16 (digits 16 false n)) → q ≡ Ok n
    by (Ok value) h =
        ap (λ (m : ℕ). Ok m) (h.1 ∙ (digits_is_IsNumeral 16 false (omega arith) (omega arith) n (omega arith)).1)
    by (Err error) h =
        let numeral = digits_is_IsNumeral 16 false (omega arith) (omega arith) n (omega arith) in
        absurd (h (numeral.0, omega (arith, numeral.1, small)))
