use Rattle.std.proofs.Common.{◌≡◌, ◌<◌, ◌≤◌, ◌++◌, ◌∷◌, [], ◌/◌, ◌%◌, ◌&&◌, ◌==◌, length, ℕ, List, Bool, true, false}
use Rattle.std.proofs.Common.{rules, arith, ap, sym, ◌∙◌, refl}
use mathlib.Core.Logic.{⊎_elim}
use Rattle.std.specs.Fmt.{digits, digit_glyph}
use Rattle.std.proofs.lemmas.Bool.{cases_lt, ne_eqb, eq-eqb}
use Rattle.cynara_keys.specs.Text.{same_text}
use Rattle.set_text.proofs.Numbering.{hex_step, hex_last, same_text-last}
use Rattle.set_text.proofs.numbers.+is_spelt.Goals as goal

no-text : (front : List ℕ) (last : ℕ) → same_text (front ++ last ∷ []) [] ≡ false
no-text [] last = refl
no-text (byte ∷ front) last = refl

none-of : (number : ℕ) → number < 65536 → same_text (digits 16 false number) [] ≡ false
none-of number small = ⊎_elim
    (λ low. ap (λ ds. same_text ds []) (hex_last number low))
    (λ high. ap (λ ds. same_text ds []) (hex_step number high small)
    ∙ no-text (digits 16 false (number / 16)) (digit_glyph false (number % 16)))
    (cases_lt number 16)

and-false : (b : Bool) → (b && false) ≡ false
and-false true = refl
and-false false = refl

and-true : (b : Bool) → (b && true) ≡ b
and-true true = refl
and-true false = refl

-- the number without its last digit
other-last : (number : ℕ) (front : List ℕ) (last : ℕ) → number < 65536
    → (digit_glyph false (number % 16) == last) ≡ false
    → same_text (digits 16 false number) (front ++ last ∷ []) ≡ false
other-last number front last small other = ⊎_elim
    (λ low. ap (λ ds. same_text ds (front ++ last ∷ [])) (hex_last number low)
    ∙ same_text-last [] front (digit_glyph false (number % 16)) last ∙ ap (λ b. same_text [] front && b) other
    ∙ and-false (same_text [] front))
    (λ high. ap (λ ds. same_text ds (front ++ last ∷ [])) (hex_step number high small)
    ∙ same_text-last (digits 16 false (number / 16)) front (digit_glyph false (number % 16)) last
    ∙ ap (λ b. same_text (digits 16 false (number / 16)) front && b) other
    ∙ and-false (same_text (digits 16 false (number / 16)) front))
    (cases_lt number 16)

nil-of : (bytes : List ℕ) → length bytes ≡ 0 → bytes ≡ []
nil-of [] none = refl
nil-of (byte ∷ bytes) none = absurd (omega arith)

empty-is : (front : List ℕ) → same_text [] front ≡ (length front == 0)
empty-is [] = refl
empty-is (byte ∷ front) = sym (search rules)

pub returns-in_default : goal.returns-in_default
returns-in_default t c =
    let empty = nil-of c.args.text.now c.in_default.ensures.cases in
    sym (ap (same_text (digits 16 false c.args.number)) empty ∙ none-of c.args.number (search rules))

pub returns-then-last-digit : goal.returns-then-last-digit
returns-then-last-digit t c =
    let number = c.args.number in
    let parts = c.in-Some.ensures.cases.0 in
    sym (ap (same_text (digits 16 false number)) parts
    ∙ other-last number c.in-Some.front.now c.in-Some.last.now (search rules)
    (ne_eqb (digit_glyph false (number % 16)) c.in-Some.last.now
    (λ e. c.if-last-digit.true (sym e ∙ sym c.digit.ensures))))

pub returns-then-number-lt16 : goal.returns-then-number-lt16
returns-then-number-lt16 t c =
    let number = c.args.number in
    let front = c.in-Some.front.now in
    let last = c.in-Some.last.now in
    let same = eq-eqb (digit_glyph false (number % 16)) last (sym c.digit.ensures ∙ sym c.if-last-digit.false) in
    c.is_empty.ensures ∙ sym (ap (same_text (digits 16 false number)) c.in-Some.ensures.cases.0
    ∙ ap (λ ds. same_text ds (front ++ last ∷ [])) (hex_last number c.if-number-lt16.true)
    ∙ same_text-last [] front (digit_glyph false (number % 16)) last ∙ ap (λ b. same_text [] front && b) same
    ∙ and-true (same_text [] front) ∙ empty-is front)

pub returns : goal.returns
returns t c =
    let number = c.args.number in
    let front = c.in-Some.front.now in
    let last = c.in-Some.last.now in
    let same = eq-eqb (digit_glyph false (number % 16)) last (sym c.digit.ensures ∙ sym c.if-last-digit.false) in
    let large : 16 ≤ number = omega (arith, c.if-number-lt16.false) in
    c.is_spelt.ensures ∙ sym (ap (same_text (digits 16 false number)) c.in-Some.ensures.cases.0
    ∙ ap (λ ds. same_text ds (front ++ last ∷ [])) (hex_step number large (search rules))
    ∙ same_text-last (digits 16 false (number / 16)) front (digit_glyph false (number % 16)) last
    ∙ ap (λ b. same_text (digits 16 false (number / 16)) front && b) same
    ∙ and-true (same_text (digits 16 false (number / 16)) front))
