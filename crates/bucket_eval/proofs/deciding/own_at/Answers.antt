use Rattle.bucket_eval.proofs.Filing.{filed-few}
use Rattle.bucket_eval.proofs.Known.{element-at}
use Rattle.bucket_eval.proofs.deciding.own_at.Goals as goal

-- the place is one of a policy
pub of-requires-clause-policy : goal.of-requires-clause-policy
of-requires-clause-policy c =
    let here = element-at c.args.asking.now.buckets.now c.args.at c.requires.there in
    filed-few c.args.asking.now c.args.at here.0 c.args.filed c.requires.right here.1 (c.requires.filed here.0 here.1)
