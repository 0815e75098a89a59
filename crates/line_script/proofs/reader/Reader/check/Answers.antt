use Rattle.std.proofs.Common.{◌≡◌, Some, IfSome, sym, subst, rules}
use Rattle.line_script.specs.Block.{Block, outside}
use Rattle.line_script.specs.Grammar.{step_at}
use Rattle.line_script.specs.declared.steps.Step.TheVariants as step
use Rattle.line_script.proofs.Checks.{step_as_check}
use Rattle.line_script.proofs.reader.Reader.check.Goals as goal

pub returns-in-Outside : goal.returns-in-Outside
returns-in-Outside c =
    let line = c.args.line.now in
    let Steps : Block → Type 0 = λ block. IfSome c.lone_check.result
    (λ question. step_at block line ≡ Some (block, step.Check question)) in
    let stands : c.args.self.now ≡ outside c.self.inside.place = search rules in
    subst Steps (sym stands)
    (step_as_check c.self.inside.place line c.lone_check.result c.if-line-gt-MOST_LINE_BYTES.false c.lone_check.ensures)
