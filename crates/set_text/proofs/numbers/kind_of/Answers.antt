use Rattle.std.proofs.Common.{◌≡◌, ◌++◌, ℕ, List, drop, codes, false, sym, ap, ◌∙◌, subst, arith, rules}
use Rattle.std.specs.Fmt.{digits}
use Rattle.std.proofs.lemmas.Bool.{true≢false}
use Rattle.std.specs.Str.{IsUtf8}
use Rattle.cynara_keys.proofs.Order.{same_text-≡, ≡-same_text}
use Rattle.set_text.specs.Numbers.{kind_of, kind_text}
use Rattle.set_text.proofs.Numbering.{none-from, kind_of-text, kind_of-kind_text, hex-IsUtf8, parses_hex}
use Rattle.set_text.proofs.numbers.kind_of.Goals as goal

pub returns-in_default : goal.returns-in_default
returns-in_default c =
    sym (none-from (kind_of c.args.text.now) (λ n is.
    let parts = kind_of-text c.args.text.now n is in
    c.in_default.ensures.cases.0 (subst IsUtf8 parts.0 (hex-IsUtf8 n (omega (arith, parts.1))))))

pub returns-in_default-from_str_radix : goal.returns-in_default-from_str_radix
returns-in_default-from_str_radix c =
    sym (none-from (kind_of c.args.text.now) (λ n is.
    let parts = kind_of-text c.args.text.now n is in
    let cut : c.in-Ok.spelling.now ≡ codes "0x" ++ c.in-Some.digits.now = search rules in
    let same : c.in-Some.digits.now ≡ digits 16 false n =
    ap (drop 2) (sym cut ∙ c.in-Ok.ensures.cases.0 ∙ sym parts.0) in
    let parsed = parses_hex n c.in-Some.digits.now c.from_str_radix.result
    (omega (arith, parts.1)) same c.from_str_radix.ensures.value in
    c.in_default-from_str_radix.not-Ok n parsed))

pub returns-then-not-is_spelt : goal.returns-then-not-is_spelt
returns-then-not-is_spelt c =
    sym (none-from (kind_of c.args.text.now) (λ n is.
    let parts = kind_of-text c.args.text.now n is in
    let number = c.in-Ok-from_str_radix.number in
    let cut : c.in-Ok.spelling.now ≡ codes "0x" ++ c.in-Some.digits.now = search rules in
    let same : c.in-Some.digits.now ≡ digits 16 false n =
    ap (drop 2) (sym cut ∙ c.in-Ok.ensures.cases.0 ∙ sym parts.0) in
    let parsed = parses_hex n c.in-Some.digits.now c.from_str_radix.result
    (omega (arith, parts.1)) same c.from_str_radix.ensures.value in
    let equal : number ≡ n = cc in
    let yes = ≡-same_text (digits 16 false number) c.as_bytes.result.now
    (ap (digits 16 false) equal ∙ sym same ∙ sym c.as_bytes.ensures.value) in
    true≢false (sym yes ∙ sym c.is_spelt.ensures ∙ c.if-not-is_spelt.true)))

pub returns : goal.returns
returns c =
    let number = c.in-Ok-from_str_radix.number in
    let cut : c.in-Ok.spelling.now ≡ codes "0x" ++ c.in-Some.digits.now = search rules in
    let same = same_text-≡ (digits 16 false number) c.as_bytes.result.now
    (sym c.is_spelt.ensures ∙ c.if-not-is_spelt.false) in
    let text : kind_text number ≡ c.args.text.now =
    ap (λ (ds : List ℕ). codes "0x" ++ ds) (same ∙ c.as_bytes.ensures.value) ∙ sym cut ∙ c.in-Ok.ensures.cases.0 in
    sym (ap kind_of (sym text) ∙ kind_of-kind_text number (search rules))
