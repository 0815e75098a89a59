use Rattle.std.proofs.Common.{◌≡◌, ◌≤◌, ◌<◌, ◌^◌, true, decimal, sym, ap, ◌∙◌, subst, arith}
use Rattle.std.proofs.lemmas.Fmt.{IsAscii-decimal, parse-decimal}
use Rattle.std.proofs.lemmas.Str.{IsUtf8-from_ascii}
use Rattle.std.proofs.lemmas.Bool.{true≢false, le-leb}
use Rattle.std.specs.Str.{IsUtf8}
use Rattle.cynara_keys.specs.Text.{same_text}
use Rattle.cynara_keys.proofs.Order.{same_text-≡, ≡-same_text}
use Rattle.set_text.specs.Numbers.{decimal_of}
use Rattle.set_text.proofs.Numbering.{none-from, decimal_of-text, decimal_of-decimal}
use Rattle.set_text.proofs.numbers.decimal_of.Goals as goal

pub returns-in-Err : goal.returns-in-Err
returns-in-Err c =
    sym (none-from (decimal_of c.args.most c.args.text.now) (λ n is.
    let parts = decimal_of-text c.args.most c.args.text.now n is in
    let small : n < 2 ^ 64 = omega (arith, parts.1, c.ranges.most.fits) in
    c.in-Err.ensures.cases.0 (subst IsUtf8 parts.0 (IsUtf8-from_ascii (decimal n) (IsAscii-decimal n small)))))

-- a number that is not parsed has no decimal text
pub returns-in-Err-parse : goal.returns-in-Err-parse
returns-in-Err-parse c =
    sym (none-from (decimal_of c.args.most c.args.text.now) (λ n is.
    let parts = decimal_of-text c.args.most c.args.text.now n is in
    let small : n < 2 ^ 64 = omega (arith, parts.1, c.ranges.most.fits) in
    let same : c.in-Ok.digits.now ≡ decimal n = c.in-Ok.ensures.cases.0 ∙ sym parts.0 in
    let parsed = parse-decimal 64 n c.in-Ok.digits.now c.parse.result small small same c.parse.ensures.value.0 in
    cc))

pub returns-then-number-most : goal.returns-then-number-most
returns-then-number-most c =
    sym (none-from (decimal_of c.args.most c.args.text.now) (λ n is.
    let parts = decimal_of-text c.args.most c.args.text.now n is in
    let small : n < 2 ^ 64 = omega (arith, parts.1, c.ranges.most.fits) in
    let same : c.in-Ok.digits.now ≡ decimal n = c.in-Ok.ensures.cases.0 ∙ sym parts.0 in
    let parsed = parse-decimal 64 n c.in-Ok.digits.now c.parse.result small small same c.parse.ensures.value.0 in
    let number : c.in-Ok-parse.number ≡ n = cc in
    omega (arith, parts.1, number, c.if-number-most.true)))

pub returns-then-is_decimal : goal.returns-then-is_decimal
returns-then-is_decimal c =
    let number = c.in-Ok-parse.number in
    let most = c.args.most in
    let same : decimal number ≡ c.args.text.now =
    same_text-≡ (decimal number) c.args.text.now (sym c.is_decimal.ensures ∙ c.if-is_decimal.true) in
    let small : number ≤ most = omega (arith, c.if-number-most.false) in
    let fits : number < 2 ^ 64 = omega (arith, small, c.ranges.most.fits) in
    sym (ap (decimal_of most) (sym same) ∙ decimal_of-decimal most number (le-leb number most small) fits)

pub returns-else-is_decimal : goal.returns-else-is_decimal
returns-else-is_decimal c =
    let number = c.in-Ok-parse.number in
    sym (none-from (decimal_of c.args.most c.args.text.now) (λ n is.
    let parts = decimal_of-text c.args.most c.args.text.now n is in
    let small : n < 2 ^ 64 = omega (arith, parts.1, c.ranges.most.fits) in
    let same : c.in-Ok.digits.now ≡ decimal n = c.in-Ok.ensures.cases.0 ∙ sym parts.0 in
    let parsed = parse-decimal 64 n c.in-Ok.digits.now c.parse.result small small same c.parse.ensures.value.0 in
    let equal : number ≡ n = cc in
    let yes : same_text (decimal number) c.args.text.now ≡ true =
    ≡-same_text (decimal number) c.args.text.now (ap decimal equal ∙ parts.0) in
    true≢false (sym yes ∙ sym c.is_decimal.ensures ∙ c.if-is_decimal.false)))
