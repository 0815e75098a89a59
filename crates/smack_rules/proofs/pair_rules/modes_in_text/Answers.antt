use Rattle.std.proofs.Common.{◌+◌, ◌++◌, sym, ap, ◌∙◌, arith}
use Rattle.std.specs.Option.{option_to_list}
use Rattle.text_lines.specs.Lines.{lines_of}
use Rattle.smack_rules.specs.Effective.{effective_from}
use Rattle.smack_rules.specs.Modes.{no_access}
use Rattle.smack_rules.specs.Rule.{line_rule}
use Rattle.smack_rules.specs.RuleText.{with_front, rules_from}
use Rattle.smack_rules.proofs.RuleLists.{effective_from-append}
use Rattle.smack_rules.proofs.RuleTexts.{with_line-front}
use Rattle.smack_rules.proofs.pair_rules.modes_in_text.Goals as goal

pub loop-line-preserved : goal.loop-line-preserved
loop-line-preserved c =
    let number = c.loop-line.number + 1 in
    let later = rules_from (number + 1) (lines_of c.in-Some.after.now) in
    let taken = c.loop-line.invariant.taken in
    let more = option_to_list c.in-Ok.rule in
    let s = c.as_slice-subject.result.now in
    let o = c.as_slice-object.result.now in
    record {
      counted = omega (arith, c.in-Some.ensures.shorter);
      taken = (
        taken.0 ++ more,
        c.modes_behind-modes.ensures ∙ ap (λ m. effective_from m more s o) taken.1
            ∙ sym (effective_from-append no_access taken.0 more s o),
        sym (with_line-front taken.0 number (line_rule c.in-Some.line.now) c.in-Ok.rule later (sym c.in-Ok.ensures))
            ∙ ap (λ lines. with_front taken.0 (rules_from number lines)) (sym c.in-Some.ensures.line)
            ∙ taken.2,
      );
    }
