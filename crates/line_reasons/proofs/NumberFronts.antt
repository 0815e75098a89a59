-- Decimal numbers up to a greatest one.
use Rattle.std.proofs.Common.{◌≡◌, ℕ, ◌+◌, ◌*◌, ◌-◌, ◌≤◌, ◌<◌, Bool, true, false, not, cond, ◌&&◌, List, [], ◌∷◌, ◌++◌}
use Rattle.std.proofs.Common.{inl, inr, Some, None, refl, sym, ap, subst, ◌∙◌, append-nil, arith}
use Rattle.std.specs.Prelude.{◌==◌, nat_le, nat_lt, is_some}
use Rattle.std.specs.List.{list_all}
use Rattle.std.specs.Char.{is_ascii_digit}
use Rattle.std.specs.Char.{digit_value}
use Rattle.std.specs.Str.Parse.{digits_value, digits_value_after}
use Rattle.std.proofs.lemmas.Bool.{and_parts, and_from, cases_lt, eqb-true, eqb-false, leb-true, le-leb, le-ltb, lt-ltb}
use Rattle.std.proofs.lemmas.Bool.{not-true, cond-true, cond-false}
use Rattle.std.proofs.lemmas.List.Folds.{list_all-append}
use Rattle.cynara_keys.specs.PolicyResult.{is_agent}
use Rattle.script_words.specs.Words.{◌>>=◌}
use Rattle.script_words.specs.Numbers.{is_number, number_that}
use Rattle.line_reasons.specs.parts.Forms.{begins_number, begins_kind}
use Rattle.line_reasons.proofs.Fronts.{Fronts, is_dark}
use Rattle.line_reasons.proofs.Runs.{as_it_is, dark_all}

-- ---- what a number is

pub number_is : (fits : ℕ → Bool) (text : List ℕ)
    → is_some (number_that fits text) ≡ is_number text && fits (digits_value 10 text)
number_is fits text = by_case (is_number text) where
  tested : (b : Bool) → is_some (cond b (Some (digits_value 10 text)) None) ≡ b
  tested true = refl
  tested false = refl

  by_case : (b : Bool) → is_some
      (cond b (Some (digits_value 10 text)) None >>= (λ number. cond (fits number) (Some number) None))
      ≡ b && fits (digits_value 10 text)
  by_case true = tested (fits (digits_value 10 text))
  by_case false = refl

grows : (n : ℕ) (digits : List ℕ) → n ≤ digits_value_after 10 n digits
grows n [] = omega arith
grows n (digit ∷ digits) = omega (arith, grows (n * 10 + digit_value digit) digits)

value-append : (n : ℕ) (front rest : List ℕ)
    → digits_value_after 10 n (front ++ rest) ≡ digits_value_after 10 (digits_value_after 10 n front) rest
value-append n [] rest = refl
value-append n (digit ∷ front) rest = value-append (n * 10 + digit_value digit) front rest

value-front : (front rest : List ℕ) → digits_value 10 front ≤ digits_value 10 (front ++ rest)
value-front front rest = omega (arith, value-append 0 front rest, grows (digits_value_after 10 0 front) rest)

-- the first digits of a number
number_front : (digit : ℕ) (digits rest : List ℕ) → is_number (digit ∷ (digits ++ rest)) ≡ true
    → is_number (digit ∷ digits) ≡ true
number_front digit [] [] is = is
number_front digit [] (next ∷ rest) is =
    let both = and_parts (not (digit == 48)) (list_all is_ascii_digit (digit ∷ next ∷ rest)) is in
    (and_parts (is_ascii_digit digit) (list_all is_ascii_digit (next ∷ rest)) both.1).0
number_front digit (next ∷ digits) rest is =
    let front = digit ∷ next ∷ digits in
    let both = and_parts (not (digit == 48)) (list_all is_ascii_digit (front ++ rest)) is in
    let all = and_parts (list_all is_ascii_digit front) (list_all is_ascii_digit rest)
    (sym (list_all-append is_ascii_digit front rest) ∙ both.1) in
    and_from (not (digit == 48)) (list_all is_ascii_digit front) both.0 all.0

-- a number within a limit begins with numbers within it
pub begins_number-front : (most : ℕ) (fits : ℕ → Bool) → ((n : ℕ) → fits n ≡ true → n ≤ most) → (front rest : List ℕ)
    → is_some (number_that fits (front ++ rest)) ≡ true → begins_number most front ≡ true
begins_number-front most fits within [] rest is = refl
begins_number-front most fits within (digit ∷ digits) rest is =
    let text = digit ∷ digits in
    let both = and_parts (is_number (text ++ rest)) (fits (digits_value 10 (text ++ rest)))
    (sym (number_is fits (text ++ rest)) ∙ is) in
    number_is (λ number. nat_le number most) text
    ∙ and_from (is_number text) (nat_le (digits_value 10 text) most) (number_front digit digits rest both.0)
    (le-leb (digits_value 10 text) most
    (omega (arith, value-front text rest, within (digits_value 10 (text ++ rest)) both.1)))

pub Fronts-uid : Fronts (λ text. is_some (number_that (λ number. nat_le number 4294967295) text))
    (begins_number 4294967295)
Fronts-uid = record {
  rest_of = on;
  is_front = begins_number-front 4294967295 (λ number. nat_le number 4294967295) (λ n is. leb-true n 4294967295 is);
} where
  on : (front : List ℕ) → begins_number 4294967295 front ≡ true
      → (rest : List ℕ) × (is_some (number_that (λ number. nat_le number 4294967295) (front ++ rest)) ≡ true)
  on [] is = (48 ∷ [], refl)
  on (digit ∷ digits) is =
      as_it_is (λ text. is_some (number_that (λ number. nat_le number 4294967295) text)) (λ _. true) (digit ∷ digits) is

-- ---- numbers of agents

zero_is_none : (digit : ℕ) (tail : List ℕ) (zero : Bool) → (digit == 48) ≡ zero → is_number (digit ∷ tail) ≡ true
    → is_agent (digits_value 10 (digit ∷ tail)) ≡ true → not zero ≡ true
zero_is_none digit tail false same number agent = refl
zero_is_none digit [] true same number agent =
    let Agent : ℕ → Type 0 = λ digit. is_agent (digits_value 10 (digit ∷ [])) ≡ true in
    let none : is_agent (digits_value 10 (48 ∷ [])) ≡ true = subst Agent (eqb-true digit 48 same) agent in
    cc
zero_is_none digit (next ∷ tail) true same number agent =
    let first = (and_parts (not (digit == 48)) (list_all is_ascii_digit (digit ∷ next ∷ tail)) number).0 in
    let none : not true ≡ true = ap not (sym same) ∙ first in
    cc

agent_within : (n : ℕ) → is_agent n ≡ true → n ≤ 65533
agent_within n is = leb-true n 65533 (and_parts (nat_le 2 n) (nat_le n 65533) is).1

kind_front : (front rest : List ℕ) → is_some (number_that is_agent (front ++ rest)) ≡ true → begins_kind front ≡ true
kind_front [] rest is = refl
kind_front (digit ∷ digits) rest is =
    let text = digit ∷ (digits ++ rest) in
    let both = and_parts (is_number text) (is_agent (digits_value 10 text)) (sym (number_is is_agent text) ∙ is) in
    and_from (begins_number 65533 (digit ∷ digits)) (not (digit == 48))
    (begins_number-front 65533 is_agent agent_within (digit ∷ digits) rest is)
    (zero_is_none digit (digits ++ rest) (digit == 48) refl both.0 both.1)

digit_above : (digit : ℕ) → is_ascii_digit digit ≡ true → (digit ≡ 48 → ⊥) → 1 ≤ digit_value digit
digit_above digit is other =
    let range = and_parts (nat_le 48 digit) (nat_le digit 57) is in
    let low = leb-true 48 digit range.0 in
    let high = leb-true digit 57 range.1 in
    let value : digit_value digit ≡ digit - 48 =
    cond-false (nat_lt digit 48) 36 (cond (nat_lt digit 58) (digit - 48) _) (le-ltb digit 48 low)
    ∙ cond-true (nat_lt digit 58) (digit - 48) _ (lt-ltb digit 58 (omega (arith, high))) in
    let above : 48 < digit = elim (cases_lt 48 digit) as (λ _. 48 < digit) [ inl more ↦ more | inr less ↦ (let same : digit ≡ 48 = omega arith in absurd (other same)) ] in
    omega (arith, value, above)

first_is_digit : (digit : ℕ) (digits : List ℕ) → is_number (digit ∷ digits) ≡ true → is_ascii_digit digit ≡ true
first_is_digit digit digits is = number_front digit [] digits is

all_digits : (digit : ℕ) (digits : List ℕ) → is_number (digit ∷ digits) ≡ true
    → list_all is_ascii_digit (digit ∷ digits) ≡ true
all_digits digit [] is = and_from (is_ascii_digit digit) true is refl
all_digits digit (next ∷ digits) is = (and_parts (not (digit == 48))
    (list_all is_ascii_digit (digit ∷ next ∷ digits)) is).1

with_zero : (digit : ℕ) (digits : List ℕ) → not (digit == 48) ≡ true → list_all is_ascii_digit (digit ∷ digits) ≡ true
    → is_number ((digit ∷ digits) ++ 48 ∷ []) ≡ true
with_zero digit [] first all = and_from (not (digit == 48)) (list_all is_ascii_digit (digit ∷ 48 ∷ [])) first
    (list_all-append is_ascii_digit (digit ∷ []) (48 ∷ []) ∙ and_from
    (list_all is_ascii_digit (digit ∷ [])) true all refl)
with_zero digit (next ∷ digits) first all =
    and_from (not (digit == 48)) (list_all is_ascii_digit ((digit ∷ next ∷ digits) ++ 48 ∷ [])) first
    (list_all-append is_ascii_digit (digit ∷ next ∷ digits) (48 ∷ []) ∙ and_from
    (list_all is_ascii_digit (digit ∷ next ∷ digits)) true all refl)

value-zero : (text : List ℕ) → digits_value 10 (text ++ 48 ∷ []) ≡ digits_value 10 text * 10
value-zero text = omega (arith, value-append 0 text (48 ∷ []))

kind_on : (front : List ℕ) → begins_kind front ≡ true → (rest : List ℕ)
    × (is_some (number_that is_agent (front ++ rest)) ≡ true)
kind_on [] is = (50 ∷ [], refl)
kind_on (digit ∷ digits) is =
    let text = digit ∷ digits in
    let parts = and_parts (begins_number 65533 text) (not (digit == 48)) is in
    let both = and_parts (is_number text) (nat_le (digits_value 10 text) 65533)
    (sym (number_is (λ number. nat_le number 65533) text) ∙ parts.0) in
    let high = leb-true (digits_value 10 text) 65533 both.1 in
    elim (cases_lt (digits_value 10 text) 2) as (λ _. (rest : List ℕ) × (is_some (number_that is_agent (text ++ rest)) ≡ true)) [
      | inl small ↦ (let more = with_zero digit digits parts.1 (all_digits digit digits both.0) in
          let one = digit_above digit (first_is_digit digit digits both.0)
          (eqb-false digit 48 (not-true (digit == 48) parts.1)) in
          let grown : digit_value digit ≤ digits_value 10 text = omega
          (arith, grows (0 * 10 + digit_value digit) digits) in
          let value = value-zero text in (
            48 ∷ [],
            number_is is_agent (text ++ 48 ∷ [])
                ∙ and_from (is_number (text ++ 48 ∷ [])) (is_agent (digits_value 10 (text ++ 48 ∷ []))) more
                (and_from (nat_le 2 (digits_value 10 (text ++ 48 ∷ [])))
                (nat_le (digits_value 10 (text ++ 48 ∷ [])) 65533)
                (le-leb 2 (digits_value 10 (text ++ 48 ∷ [])) (omega (arith, value, one, grown)))
                (le-leb (digits_value 10 (text ++ 48 ∷ [])) 65533 (omega (arith, value, small)))),
          ))
      | inr large ↦ (
        [],
        ap (λ text. is_some (number_that is_agent text)) (append-nil text) ∙ number_is is_agent text
            ∙ and_from (is_number text) (is_agent (digits_value 10 text)) both.0
            (and_from (nat_le 2 (digits_value 10 text)) (nat_le (digits_value 10 text) 65533)
            (le-leb 2 (digits_value 10 text) large) both.1),
      )
    ]

pub Fronts-kind : Fronts (λ text. is_some (number_that is_agent text)) begins_kind
Fronts-kind = record { rest_of = kind_on; is_front = kind_front }

-- ---- digits are no blanks, and no colons

digit-dark : (byte : ℕ) → is_ascii_digit byte ≡ true → is_dark byte ≡ true
digit-dark byte is =
    lt-ltb 32 byte (omega (arith, leb-true 48 byte (and_parts (nat_le 48 byte) (nat_le byte 57) is).0))

pub number-digits : (most : ℕ) (front : List ℕ) → begins_number most front ≡ true → list_all is_ascii_digit front ≡ true
number-digits most [] is = refl
number-digits most (digit ∷ digits) is =
    all_digits digit digits (and_parts (is_number (digit ∷ digits)) (nat_le (digits_value 10 (digit ∷ digits)) most)
    (sym (number_is (λ number. nat_le number most) (digit ∷ digits)) ∙ is)).0

pub number-dark : (most : ℕ) (front : List ℕ) → begins_number most front ≡ true → list_all is_dark front ≡ true
number-dark most front is = dark_all is_ascii_digit digit-dark front (number-digits most front is)

pub that-digits : (fits : ℕ → Bool) (text : List ℕ) → is_some (number_that fits text) ≡ true
    → list_all is_ascii_digit text ≡ true
that-digits fits [] is = refl
that-digits fits (digit ∷ digits) is =
    all_digits digit digits (and_parts (is_number (digit ∷ digits)) (fits (digits_value 10 (digit ∷ digits)))
    (sym (number_is fits (digit ∷ digits)) ∙ is)).0
