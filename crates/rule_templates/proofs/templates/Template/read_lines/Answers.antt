use Rattle.std.proofs.Common.{◌≡◌, ◌+◌, ◌++◌, [], ◌∷◌, ap, sym, ◌∙◌, true, ◌&&◌, arith, rules, length-append}
use Rattle.std.specs.List.{list_all}
use Rattle.std.proofs.lemmas.List.Folds.{list_all-append}
use Rattle.text_lines.specs.Lines.{lines_of}
use Rattle.rule_templates.specs.TemplateLine.{is_kept_line, line_of}
use Rattle.rule_templates.specs.Template.{with_front, template_from}
use Rattle.rule_templates.proofs.Reading.{with_front-line}
use Rattle.rule_templates.proofs.templates.Template.read_lines.Goals as goal

pub loop-line-preserved : goal.loop-line-preserved
loop-line-preserved c =
    let done = c.loop-line.lines.items in
    let kept = c.in_ok-line.line in
    let number = c.loop-line.number + 1 in
    let rest = lines_of c.in-Some.after.now in
    let pushed : c.push.new.self.items ≡ done ++ kept ∷ [] = search rules in
    let taken = c.loop-line.invariant.taken in
    let sound = c.loop-line.invariant.kept in
    record {
      counted = rw pushed (omega (arith, length-append done (kept ∷ [])));
      within = c.in_ok-test_line.ensures.within;
      kept = rw pushed (list_all-append is_kept_line done (kept ∷ [])
          ∙ ap (λ b. b && list_all is_kept_line (kept ∷ [])) sound
          ∙ ap (λ b. b && true) c.in_ok-line.ensures.kept);
      taken = rw pushed (sym (with_front-line done number (line_of c.in-Some.line.now) kept (template_from (number + 1) rest)
          (c.in_ok-test_line.ensures.words ∙ c.in_ok-line.ensures.line) c.in_ok-test_line.ensures.within)
          ∙ ap (λ lines. with_front done (template_from number lines)) (sym c.in-Some.ensures.line)
          ∙ taken);
    }
