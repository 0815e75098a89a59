-- Decimal numbers and their spelling.
use Rattle.std.proofs.Common.{◌≡◌, ℕ, ◌<◌, ◌^◌, zero, suc, Bool, true, false, not, cond, ◌&&◌, nat_le, ◌≢◌, List, []}
use Rattle.std.proofs.Common.{◌∷◌, length, get_or, Some, None, decimal, refl, sym, ap, arith, rules}
use Rattle.std.specs.Char.{is_ascii_digit}
use Rattle.std.specs.List.{list_all}
use Rattle.std.specs.Str.Parse.{digits_value}
use Rattle.std.proofs.lemmas.Bool.{ne_eqb, lt-leb}
use Rattle.std.proofs.lemmas.Str.Parse.{IsNumeralModel, numerals_by_value}
use Rattle.std.proofs.lemmas.Fmt.{digits_decimal, decimal_nonempty, decimal_digit, first_decimal}
use Rattle.script_words.specs.Numbers.{is_number}

pub own : IsNumeralModel (λ ds. list_all is_ascii_digit ds ≡ true) (digits_value 10)
own = numerals_by_value _ (search rules)

-- what the test of a text tests
pub digits-is_number : (text : List ℕ) → is_number text ≡ true → list_all is_ascii_digit text ≡ true
digits-is_number [] is = cc
digits-is_number (digit ∷ []) is = search (rules, is)
digits-is_number (first ∷ next ∷ digits) is = search (rules, is)

pub nonempty-is_number : (text : List ℕ) → is_number text ≡ true → 0 < length text
nonempty-is_number [] is = cc
nonempty-is_number (digit ∷ digits) is = omega arith

and_true : {a b : Bool} → a ≡ true → b ≡ true → a && b ≡ true
and_true {a = true} {b = true} left right = refl
and_true {a = true} {b = false} left right = cc
and_true {a = false} left right = cc

is_number-from : (ds : List ℕ) → list_all is_ascii_digit ds ≡ true → 0 < length ds
    → (length ds ≢ 1 → 48 < get_or ds 0 0)
    → is_number ds ≡ true
is_number-from [] digits some first = absurd (omega (arith, some))
is_number-from (digit ∷ []) digits some first = search (rules, digits)
is_number-from (first ∷ next ∷ ds) digits some above =
    let greater : 48 < first = above (λ one. omega (arith, one)) in
    and_true (ap not (ne_eqb first 48 (λ same. omega (arith, same, greater)))) digits

-- a text that is a number
long_decimal : (n : ℕ) → n < 2 ^ 64 → length (decimal n) ≢ 1 → 48 < get_or (decimal n) 0 0
long_decimal zero h long = absurd (long (ap length (decimal_digit 0 (omega arith))))
long_decimal (suc n) h long = first_decimal (suc n) (omega arith) h

pub is_number-decimal : (n : ℕ) → n < 2 ^ 64 → is_number (decimal n) ≡ true
is_number-decimal n h =
    is_number-from (decimal n) (digits_decimal own n h) (decimal_nonempty n h) (long_decimal n h)

-- a number of more than 32 bits is none that is read
pub too_great : (n : ℕ) → (n < 2 ^ 32 → ⊥) → None ≡ cond (nat_le n 4294967295) (Some n) None
too_great n past = ap (λ b. cond b (Some n) None) (sym (lt-leb n 4294967295 (omega (arith, past))))
