use Rattle.std.proofs.Common.{◌≡◌, ◌==◌, ◌∷◌, [], length, Err, false, rules, arith, subst, sym, ap, ◌∙◌, length-append}
use Rattle.set_text.specs.Template.{read_template_line, template_lines_of}
use Rattle.set_text.specs.parts.Reads.{RefusesFile}
use Rattle.set_text.proofs.ReadingTemplate.{line-room}
use Rattle.set_text.proofs.Refusing.{refuses-at}
use Rattle.set_text.proofs.TextLines.{values_behind-value, values_behind-wrong, values_behind-open, some-bytes}
use Rattle.set_text.proofs.templates.read_template.Goals as goal

pub returns-in_default : goal.returns-in_default
returns-in_default c =
    let before = c.loop-rest.template in
    let rest = c.loop-rest.rest.now in
    let some : (length rest == 0) ≡ false = search rules in
    sym c.loop-rest.invariant.taken
    ∙ values_behind-open read_template_line before rest c.in_default.ensures.none (some-bytes rest some)
    ∙ ap (λ line. Err line) (sym c.loop-rest.invariant.counted)

pub returns-in-Err : goal.returns-in-Err
returns-in-Err c =
    let before = c.loop-rest.template in
    let line = c.in-Some.line.now in
    subst (λ fault. RefusesFile fault (template_lines_of c.args.text.now)) (sym c.at.ensures)
    (refuses-at c.in-Err.fault c.loop-rest.number (read_template_line before line)
    (template_lines_of c.args.text.now) c.in-Err.ensures (λ wrong.
    sym c.loop-rest.invariant.taken
    ∙ values_behind-wrong read_template_line before c.loop-rest.rest.now line c.in-Some.after.now c.in-Some.ensures.cut
    c.in-Some.ensures.first wrong
    ∙ ap (λ line. Err line) (sym c.loop-rest.invariant.counted)))

pub loop-rest-preserved : goal.loop-rest-preserved
loop-rest-preserved c =
    let before = c.loop-rest.template in
    let text = c.in-Some.line.now in
    let made = c.in_default-push_line.ensures in
    let line = made.line in
    record {
      counted = rw made.put (omega (arith, length-append before (line ∷ []), c.loop-rest.invariant.counted));
      few = rw made.put (omega (arith, length-append before (line ∷ []), line-room before text line made.reads));
      taken = rw made.put (sym
          (values_behind-value read_template_line before c.loop-rest.rest.now text c.in-Some.after.now line
          c.in-Some.ensures.cut c.in-Some.ensures.first made.reads)
          ∙ c.loop-rest.invariant.taken);
    }
