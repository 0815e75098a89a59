use Rattle.std.proofs.Common.{◌≡◌, List, length, sym, ap, arith, length-append}
use Rattle.std.proofs.lemmas.List.{length-take-le}
use Rattle.smack_rules.specs.declared.rule.Rule.{Rule}
use Rattle.smack_rules.specs.Effective.{effective}
use Rattle.access_runs.specs.Limits.{most_rules_bytes}
use Rattle.access_runs.proofs.RuleTexts.{IsWrongAt-past, IsWrongAt-before}
use Rattle.access_runs.proofs.access_runs.stop_past_limit.Goals as goal

pub slice_bounds-whole_lines-end : goal.slice_bounds-whole_lines-end
slice_bounds-whole_lines-end c = sym (length-take-le most_rules_bytes c.args.text.now (omega arith))

pub whole_lines-count-requires : goal.whole_lines-count-requires
whole_lines-count-requires c = omega (arith, length-take-le most_rules_bytes c.args.text.now (omega arith))

pub modes_in_text-requires : goal.modes_in_text-requires
modes_in_text-requires c =
    let lines = c.whole_lines-count.result.0.now in
    let are = c.whole_lines-count.ensures.lines in
    omega (
      arith,
      ap length are.parts,
      length-append lines are.rest,
      length-take-le most_rules_bytes c.args.text.now
          (omega arith),
    )

pub overflow_add-result : goal.overflow_add-result
overflow_add-result c =
    omega (arith, c.whole_lines-count.ensures.count, length-take-le most_rules_bytes c.args.text.now (omega arith))

pub returns-in-Ok : goal.returns-in-Ok
returns-in-Ok c =
    let given : List Rule → Type 0 = λ rules. c.in-Ok.field-0 ≡ effective rules c.args.subject.now c.args.object.now in
    IsWrongAt-past c.whole_lines-count.result.1 c.args.text.now c.whole_lines-count.result.0.now given c.requires
    c.whole_lines-count.ensures.lines c.in-Ok.ensures.modes

pub returns-in-Err : goal.returns-in-Err
returns-in-Err c =
    IsWrongAt-before c.whole_lines-count.result.1 c.in-Err.number c.args.text.now c.whole_lines-count.result.0.now c.requires
    c.whole_lines-count.ensures.lines c.in-Err.ensures.refused
