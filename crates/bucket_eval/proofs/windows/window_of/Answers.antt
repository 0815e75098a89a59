use Rattle.std.proofs.Common.{subst}
use Rattle.bucket_eval.specs.parts.Windows.{FailsOutside, has_client}
use Rattle.bucket_eval.proofs.Outside.{both-outside}
use Rattle.bucket_eval.proofs.windows.window_of.Goals as goal

pub returns-clause-outside : goal.returns-clause-outside
returns-clause-outside c =
    both-outside c.args.question.now c.args.policies.now c.covering.result c.window_of_client-own.result
    c.window_of_client-any.result c.covering.ensures.covers
    (subst (λ client. FailsOutside (has_client client) c.window_of_client-own.result c.args.policies.now)
    c.client.ensures.bytes c.window_of_client-own.ensures.outside)
    c.window_of_client-any.ensures.outside
