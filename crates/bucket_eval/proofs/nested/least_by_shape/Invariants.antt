use Rattle.std.proofs.Common.{length}
use Rattle.bucket_eval.specs.parts.Buckets.{Offers}
use Rattle.bucket_eval.proofs.Offers.{least_below}
use Rattle.bucket_eval.proofs.nested.least_by_shape.Given as goal

-- the best offer is the least of the policies whose shape is below this one
abbrev pub invariant-loop-shape : goal.invariant-loop-shape
invariant-loop-shape l =
    Offers l.asked.buckets.now
    (least_below l.asked.buckets.now l.asked.question.now l.asked.deep (length l.asked.buckets.now) l.bucket.name
    l.bucket.policies l.shape)
    l.best
