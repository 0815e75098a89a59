use Rattle.std.proofs.Common.{◌≡◌, ◌++◌, subst, sym, IfSome, OnOk}
use Rattle.script_replies.specs.Reply.{verdict_text}
use Rattle.script_replies.proofs.questions.print_found.Goals as goal

pub returns-clause-ok : goal.returns-clause-ok
returns-clause-ok c =
    subst (λ outcome. OnOk c.print_verdict.result
    (IfSome outcome (λ outcome. c.print_verdict.new.out ≡ c.args.out.now ++ verdict_text c.args.commit outcome)))
    (sym c.lend.ensures) c.print_verdict.ensures.ok
