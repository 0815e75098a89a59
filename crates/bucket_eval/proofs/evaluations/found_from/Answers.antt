use Rattle.std.proofs.Common.{refl}
use Rattle.bucket_eval.proofs.Places.{held-answer, held-kind, held-there}
use Rattle.bucket_eval.proofs.evaluations.found_from.Goals as goal

pub returns-clause-answer : goal.returns-clause-answer
returns-clause-answer c =
    held-answer c.args.database.now c.buckets-buckets.result.now c.args.question.now c.args.recursive _ c.args.start
    c.from_the_start.result c.buckets-buckets.ensures.buckets c.buckets-buckets.ensures.in_order.names_rise refl
    c.from_the_start.ensures

pub returns-clause-kind : goal.returns-clause-kind
returns-clause-kind c =
    held-kind c.args.database.now c.buckets-buckets.result.now c.args.question.now c.args.recursive _ c.args.start
    c.from_the_start.result c.buckets-buckets.ensures.buckets c.buckets-buckets.ensures.in_order.names_rise c.requires
    c.from_the_start.ensures

pub returns-clause-there : goal.returns-clause-there
returns-clause-there c =
    held-there c.args.database.now c.buckets-buckets.result.now c.args.question.now c.args.recursive _ c.args.start
    c.from_the_start.result c.buckets-buckets.ensures.buckets c.buckets-buckets.ensures.in_order.names_rise refl c.requires
    c.from_the_start.ensures
