use Rattle.std.proofs.Common.{◌≡◌, ◌∙◌, ◌++◌, subst, OnOk}
use Rattle.line_answers.specs.Answers.{by_policy_text}
use Rattle.script_replies.proofs.questions.print_decided.Goals as goal

pub returns-clause-ok : goal.returns-clause-ok
returns-clause-ok c =
    let name = c.as_slice.ensures.bytes in
    let metadata = c.as_slice-2.ensures.bytes ∙ c.metadata.ensures.metadata in
    subst (λ text. OnOk c.print.result (c.print.new.out ≡ c.args.out.now ++ text))
    (λ i. by_policy_text c.args.commit (name i) (record { kind = c.kind.ensures i; metadata = metadata i })
    (c.client.ensures.text i) (c.user.ensures.text i) (c.privilege.ensures.text i)) c.print.ensures.ok
