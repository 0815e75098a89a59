use Rattle.std.proofs.Common.{ℕ, List, subst}
use Rattle.std.specs.Str.Parse.{digits_value, ParsesUnsigned}
use Rattle.std.proofs.lemmas.Fmt.{IsAscii-from_digits}
use Rattle.std.proofs.lemmas.Str.{IsUtf8-from_ascii}
use Rattle.std.proofs.lemmas.Str.Parse.{parse_digits}
use Rattle.std.proofs.lemmas.Result.{OkIff-at_err}
use Rattle.script_words.proofs.Numerals.{own, digits-is_number, nonempty-is_number, too_great}
use Rattle.script_words.proofs.numbers.number_of_digits.Goals as goal

pub unreachable-requires : goal.unreachable-requires
unreachable-requires c =
    let text = c.args.text.now in
    c.in-Err.ensures.cases.0 (IsUtf8-from_ascii text
    (IsAscii-from_digits text (own.to text (digits-is_number text c.requires))))

pub returns-in-Err-parse : goal.returns-in-Err-parse
returns-in-Err-parse c =
    let text = c.args.text.now in
    let Parses : List ℕ → Type 0 = λ text. ParsesUnsigned 32 10 text c.parse.result in
    let parses = subst Parses c.in-Ok.ensures.cases.0 c.parse.ensures.value.0 in
    let past = OkIff-at_err c.parse.result _ _ _
    (parse_digits own 32 text c.parse.result parses (digits-is_number text c.requires)) c.in-Err-parse.is in
    too_great (digits_value 10 text) (λ small. past (nonempty-is_number text c.requires, small))
