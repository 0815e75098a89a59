use Rattle.bucket_eval.specs.parts.Deciding.{answer_of}
use Rattle.bucket_eval.proofs.Filing.{known-there}
use Rattle.bucket_eval.proofs.Known.{element-at}
use Rattle.bucket_eval.proofs.Settled.{ends-at}
use Rattle.bucket_eval.proofs.deciding.decided.Goals as goal

pub settle-requires-clause-ends : goal.settle-requires-clause-ends
settle-requires-clause-ends c = λ bucket there.
    ends-at c.args.asking.now.buckets.now 0 bucket c.requires.right.kept there

pub found-requires : goal.found-requires
found-requires c =
    let here = element-at c.args.asking.now.buckets.now 0 c.requires.there in
    known-there c.args.asking.now.buckets.now (answer_of c.args.asking.now here.0.name) c.settle.result
    (c.settle.ensures.answers here.0 here.1)
