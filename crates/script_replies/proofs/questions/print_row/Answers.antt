use Rattle.std.proofs.Common.{◌≡◌, ◌∙◌, ◌++◌, subst, OnOk}
use Rattle.line_answers.specs.Answers.{row_text}
use Rattle.script_replies.proofs.questions.print_row.Goals as goal

pub returns-clause-ok : goal.returns-clause-ok
returns-clause-ok c =
    let metadata = c.as_slice.ensures.bytes ∙ c.metadata.ensures.metadata in
    subst (λ text. OnOk c.print.result (c.print.new.out ≡ c.args.out.now ++ text))
    (λ i. row_text (c.client.ensures.text i) (c.user.ensures.text i) (c.privilege.ensures.text i)
    (record { kind = c.kind.ensures i; metadata = metadata i })) c.print.ensures.ok
