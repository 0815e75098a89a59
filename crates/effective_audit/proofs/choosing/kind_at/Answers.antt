use Rattle.std.proofs.Common.{◌≡◌, subst, IfSome}
use Rattle.bucket_eval.specs.Evaluation.{Outcome}
use Rattle.bucket_eval.specs.Found.{outcome_at}
use Rattle.effective_audit.proofs.Beginning.{root-within, root-answered}
use Rattle.effective_audit.proofs.choosing.kind_at.Goals as goal

pub plain_borrowed-requires : goal.plain_borrowed-requires
plain_borrowed-requires c = root-within c.args.database.now c.args.start c.requires

pub returns : goal.returns
returns c =
    let found = c.plain_borrowed.result in
    let answered = root-answered c.args.database.now c.args.start c.requires c.args.question.now (outcome_at c.args.database.now found)
    c.plain_borrowed.ensures.answer in
    subst (λ outcome. IfSome outcome (λ (outcome : Outcome). found.kind.0 ≡ outcome.result.kind)) answered c.plain_borrowed.ensures.kind
