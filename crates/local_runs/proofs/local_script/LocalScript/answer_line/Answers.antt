use Rattle.std.proofs.Common.{rules, ◌≡◌, ◌++◌, ℕ, List, Option, Some, ap, sym, subst}
use Rattle.line_script.specs.Grammar.{step_at}
use Rattle.line_script.specs.declared.steps.Step.TheVariants.{Check}
use Rattle.script_replies.specs.Reply.{reply}
use Rattle.local_runs.specs.declared.local_script.LocalScript.{LocalScript}
use Rattle.local_runs.specs.parts.Local.{AnswersLine}
use Rattle.local_runs.proofs.Obeying.{answers-check}
use Rattle.local_runs.proofs.local_script.LocalScript.answer_line.Goals as goal

pub returns-in-Some-clause-line : goal.returns-in-Some-clause-line
returns-in-Some-clause-line g c =
    let old = c.args.self.now in
    let asked = c.answer_check.new.self in
    let new : LocalScript = record asked { notes = c.tell_of_check.new.self } in
    let desk = c.args.keeper.now.desk in
    let taken = g.K.Sink.taken c.args.sink.now in
    let reads : step_at old.reader c.args.line.now ≡ Some (old.reader, Check c.in-Some.question) = search rules in
    let same : asked.reader ≡ old.reader = ap (λ (script : LocalScript). script.reader) c.answer_check.ensures.same in
    let shares : asked.shares ≡ old.shares = ap (λ (script : LocalScript). script.shares) c.answer_check.ensures.same in
    let text : asked.answers ≡ old.answers ++ reply desk old.shares (Check c.in-Some.question) = search rules in
    subst (λ (after : Option (List ℕ)). AnswersLine taken after old new desk desk c.args.line.now)
    (sym c.tell_of_check.ensures.taken)
    (answers-check taken old new desk c.args.line.now c.in-Some.question reads same shares text)
