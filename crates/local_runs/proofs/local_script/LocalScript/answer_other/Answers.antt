use Rattle.std.proofs.Common.{ap, sym, subst, ◌∙◌, ℕ, List, Option, Some, Ok, Err}
use Rattle.local_runs.specs.declared.local_script.LocalScript.{LocalScript}
use Rattle.local_runs.specs.parts.Local.{AnswersLine}
use Rattle.local_runs.proofs.Obeying.{line-of-step}
use Rattle.local_runs.proofs.local_script.LocalScript.answer_other.Goals as goal

pub returns-in-Ok-answer_step-clause-line : goal.returns-in-Ok-answer_step-clause-line
returns-in-Ok-answer_step-clause-line g c =
    let old = c.args.self.now in
    let new : LocalScript = record c.answer_step.new.self { notes = c.tell.new.self } in
    let taken = g.K.Sink.taken c.args.sink.now in
    subst (λ (after : Option (List ℕ)). AnswersLine taken after old new c.args.keeper.now.desk c.answer_step.new.keeper.desk c.args.line.now)
    (sym c.tell.ensures.taken)
    (line-of-step _ _ old new _ _ c.args.line.now c.args.number c.in-Ok.step
    (c.in-Ok.ensures.turn ∙ ap (λ reader. Some (reader, c.in-Ok.step)) (sym c.answer_step.ensures.reader))
    (Ok tt) c.in-Ok-answer_step.ensures.step)

pub returns-in-Ok-clause-line : goal.returns-in-Ok-clause-line
returns-in-Ok-clause-line g c =
    line-of-step _ _ c.args.self.now c.answer_step.new.self _ _ c.args.line.now c.args.number c.in-Ok.step
    (c.in-Ok.ensures.turn ∙ ap (λ reader. Some (reader, c.in-Ok.step)) (sym c.answer_step.ensures.reader))
    (Err c.in-Err.ending) c.in-Err.ensures.step
