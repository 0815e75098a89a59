use Rattle.std.proofs.Common.{◌≡◌, ◌&&◌, ◌++◌, ◌∷◌, [], Bool, true, false, refl, sym, ap, ◌∙◌}
use Rattle.std.proofs.lemmas.Bool.{eq-eqb, ne_eqb}
use Rattle.cynara_keys.specs.Text.{same_text}
use Rattle.set_text.proofs.Numbering.{same_text-last}
use Rattle.set_text.proofs.templates.is_line.Goals as goal

and-true : (b : Bool) → (b && true) ≡ b
and-true true = refl
and-true false = refl

and-false : (b : Bool) → (b && false) ≡ false
and-false true = refl
and-false false = refl

pub returns-then-last-eq10 : goal.returns-then-last-eq10
returns-then-last-eq10 c =
    let front = c.in-Some.front.now in
    let last = c.in-Some.last.now in
    let line = c.args.line.now in
    c.eq.ensures
    ∙ sym (ap (λ text. same_text text (line ++ 10 ∷ [])) c.in-Some.ensures.cases.0
    ∙ same_text-last front line last 10 ∙ ap (λ b. same_text front line && b) (eq-eqb last 10 c.if-last-eq10.true)
    ∙ and-true (same_text front line))

pub returns-else-last-eq10 : goal.returns-else-last-eq10
returns-else-last-eq10 c =
    let front = c.in-Some.front.now in
    let last = c.in-Some.last.now in
    let line = c.args.line.now in
    let other = ne_eqb last 10 c.if-last-eq10.false in
    other
    ∙ sym (ap (λ text. same_text text (line ++ 10 ∷ [])) c.in-Some.ensures.cases.0
    ∙ same_text-last front line last 10 ∙ ap (λ b. same_text front line && b) other ∙ and-false (same_text front line))
