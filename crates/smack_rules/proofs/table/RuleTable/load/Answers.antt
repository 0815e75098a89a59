use Rattle.std.proofs.Common.{◌≡◌, ◌+◌, ◌++◌, Result, Ok, Err, IsOkAnd, refl, sym, ap, ◌∙◌, arith}
use Rattle.std.specs.Option.{option_to_list}
use Rattle.std.proofs.lemmas.Result.{err_from_is_err_and}
use Rattle.text_lines.specs.Lines.{lines_of}
use Rattle.smack_rules.specs.declared.table.LoadRefusal.TheVariants.{Memory}
use Rattle.smack_rules.specs.Rule.{line_rule}
use Rattle.smack_rules.specs.RuleText.{with_front, rules_from}
use Rattle.smack_rules.proofs.ChangeLists.{ChangeAs-more}
use Rattle.smack_rules.proofs.RuleTexts.{with_line-front, RefusesText-behind, right-whole, NamesFirstWrongLine-refused}
use Rattle.smack_rules.proofs.table.RuleTable.load.Goals as goal

ok_part : {T E : Type 0} (P : T → Type 0) (r : Result T E) → IsOkAnd r P → (x : T) × (r ≡ Ok x) × P x
ok_part P (Ok x) h = (x, refl, h)
ok_part P (Err e) h = absurd h

pub returns-in_err-follow_line-clause-loaded : goal.returns-in_err-follow_line-clause-loaded
returns-in_err-follow_line-clause-loaded c =
    let taken = c.loop-line.invariant.taken in
    let refused =
    RefusesText-behind c.in_err-follow_line.field-0.0 c.args.text.now c.loop-line.rest.now c.in-Some.line.now c.in-Some.after.now
    taken.0 (c.loop-line.number + 1) c.in-Some.ensures.line taken.2 c.in_err-follow_line.ensures.refused in
    let exit = err_from_is_err_and c.from_residual.result c.from_residual.ensures.1 in
    rw (exit.1, exit.2) refused

pub returns-in_err-follow_line-clause-refused : goal.returns-in_err-follow_line-clause-refused
returns-in_err-follow_line-clause-refused c =
    let taken = c.loop-line.invariant.taken in
    let refused =
    RefusesText-behind c.in_err-follow_line.field-0.0 c.args.text.now c.loop-line.rest.now c.in-Some.line.now c.in-Some.after.now
    taken.0 (c.loop-line.number + 1) c.in-Some.ensures.line taken.2 c.in_err-follow_line.ensures.refused in
    let exit = err_from_is_err_and c.from_residual.result c.from_residual.ensures.1 in
    rw (exit.1, exit.2) (NamesFirstWrongLine-refused c.in_err-follow_line.field-0.0 c.args.text.now refused)

pub loop-line-preserved : goal.loop-line-preserved
loop-line-preserved c =
    let line = line_rule c.in-Some.line.now in
    let number = c.loop-line.number + 1 in
    let later = rules_from (number + 1) (lines_of c.in-Some.after.now) in
    let taken = c.loop-line.invariant.taken in
    let rule = ok_part _ line c.in_ok-follow_line.ensures.followed in
    let old = c.loop-line.changes.changes.items in
    let new = c.follow_line.new.changes.changes.items in
    record {
      counted = omega (arith, c.in-Some.ensures.shorter);
      taken = (
        taken.0 ++ option_to_list rule.0,
        ChangeAs-more old new taken.0 (option_to_list rule.0) taken.1 rule.2,
        sym (with_line-front taken.0 number line rule.0 later rule.1)
            ∙ ap (λ lines. with_front taken.0 (rules_from number lines)) (sym c.in-Some.ensures.line)
            ∙ taken.2,
      );
    }

pub returns-in-Err-clause-refused : goal.returns-in-Err-clause-refused
returns-in-Err-clause-refused c =
    let text = c.args.text.now in
    let taken = c.loop-line.invariant.taken in
    NamesFirstWrongLine-refused (Memory c.in-Err.error) text
    (right-whole text c.loop-line.rest.now taken.0 (c.loop-line.number + 1) c.in_default.ensures.line taken.2)
