use Rattle.std.proofs.Common.{◌≡◌, ◌<◌, ◌^◌, nat_le, cond, Some, None, true, false, ap, ◌∙◌, arith}
use Rattle.std.specs.Str.Parse.{digits_value}
use Rattle.std.proofs.lemmas.Fmt.{digits_value-decimal}
use Rattle.std.proofs.lemmas.Bool.{le-leb}
use Rattle.script_words.specs.Numbers.{is_number}
use Rattle.script_words.proofs.Numerals.{own, is_number-decimal}
use Rattle.script_words.proofs.numbers.read_number.Goals as goal

pub returns-then-is_number-clause-again : goal.returns-then-is_number-clause-again
returns-then-is_number-clause-again c number small is =
    let wide : number < 2 ^ 64 = omega (arith, small) in
    c.number_of_digits.ensures
    ∙ ap (λ text. cond (nat_le (digits_value 10 text) 4294967295) (Some (digits_value 10 text)) None) is
    ∙ ap (λ value. cond (nat_le value 4294967295) (Some value) None) (digits_value-decimal own number wide)
    ∙ ap (λ b. cond b (Some number) None) (le-leb number 4294967295 (omega (arith, small)))

pub returns-else-is_number-clause-again : goal.returns-else-is_number-clause-again
returns-else-is_number-clause-again c number small is =
    let wide : number < 2 ^ 64 = omega (arith, small) in
    let wrong : false ≡ true = c.if-is_number.ensures ∙ ap is_number is ∙ is_number-decimal number wide in
    cc
