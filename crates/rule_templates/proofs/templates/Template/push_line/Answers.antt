use Rattle.std.proofs.Common.{◌≡◌, ◌+◌, ◌≤◌, length, Result, Ok, Err, IsOk, [], refl, ◌∙◌, arith, rules}
use Rattle.rule_templates.specs.TemplateLine.{word_of, line_of}
use Rattle.rule_templates.proofs.Reading.{line_with-known, with_front-line}
use Rattle.rule_templates.proofs.templates.Template.push_line.Goals as goal

-- what is right is there
IsOk-of : {T E : Type 0} (result : Result T E) (value : T) → result ≡ Ok value → IsOk result
IsOk-of (Ok other) value is = refl
IsOk-of (Err refusal) value is = cc

pub returns-in-Err : goal.returns-in-Err
returns-in-Err c =
    let parts = c.in_ok-parts.parts in
    let number = length c.args.self.now + 1 in
    let counted : c.len.result ≡ length c.args.self.now = search rules in
    let within : number ≤ 64 = omega (arith, counted, c.in_ok-parts.ensures.within) in
    let known = line_with-known (word_of parts.subject.now) (word_of parts.object.now) parts.change parts.subject_known parts.object_known in
    let right = with_front-line c.args.self.now number (line_of c.args.line.now) known.0 (Ok [])
    (c.in_ok-parts.ensures.words ∙ known.1) within in
    (refl, IsOk-of _ _ right)
