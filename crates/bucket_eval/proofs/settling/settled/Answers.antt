use Rattle.bucket_eval.proofs.Settled.{ends-there}
use Rattle.bucket_eval.proofs.settling.settled.Goals as goal

pub settle-requires-clause-ends : goal.settle-requires-clause-ends
settle-requires-clause-ends c = ends-there c.args.asked.now.buckets.now c.args.at c.requires.kept
