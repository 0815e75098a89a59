use Rattle.std.proofs.Common.{rules, ◌≡◌, ◌∷◌, Some, true}
use Rattle.std.specs.Prelude.{codes}
use Rattle.line_script.specs.Grammar.{check_at}
use Rattle.script_words.specs.Words.{words_of}
use Rattle.line_script.specs.declared.steps.Step.TheVariants as step
use Rattle.line_script.specs.parts.Beginnings.{begins_as_check}
use Rattle.line_script.proofs.Checks.{read_as_check}
use Rattle.line_script.proofs.lines.lone_check.Goals as goal

pub returns-in-Ok : goal.returns-in-Ok
returns-in-Ok c = λ place.
    let line = c.args.line.now in
    let first = c.in_ok-verb.verb.now in
    let rest = c.next.new.self in
    let begins : begins_as_check line ≡ true = search rules in
    let words : words_of line ≡ first ∷ rest = search rules in
    let is : first ≡ codes "check" = search rules in
    let asked : check_at rest ≡ Some (step.Check c.in-Ok.question) = search rules in
    read_as_check place line first rest c.in-Ok.question begins words is asked
