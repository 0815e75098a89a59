use Rattle.std.proofs.Common.{◌+◌, ◌++◌, [], ◌∷◌, ap, sym, ◌∙◌}
use Rattle.text_lines.specs.Lines.{lines_of}
use Rattle.rule_templates.specs.TemplateLine.{word_of, line_of}
use Rattle.rule_templates.specs.Template.{with_front, template_from}
use Rattle.rule_templates.proofs.Reading.{line_with-known, with_front-line}
use Rattle.rule_templates.proofs.templates.fault_of.Goals as goal

pub loop-line-preserved : goal.loop-line-preserved
loop-line-preserved c =
    let parts = c.in_default-test_line.field-0 in
    let number = c.loop-line.number + 1 in
    let rest = lines_of c.in-Some.after.now in
    let known = line_with-known (word_of parts.subject.now) (word_of parts.object.now) parts.change parts.subject_known parts.object_known in
    let taken = c.loop-line.invariant.taken in
    record {
      within = c.in_default-test_line.ensures.within;
      taken = (
        taken.0 ++ known.0 ∷ [],
        sym (with_front-line taken.0 number (line_of c.in-Some.line.now) known.0 (template_from (number + 1) rest)
            (c.in_default-test_line.ensures.words ∙ known.1) c.in_default-test_line.ensures.within)
            ∙ ap (λ lines. with_front taken.0 (template_from number lines)) (sym c.in-Some.ensures.line)
            ∙ taken.1,
      );
    }
