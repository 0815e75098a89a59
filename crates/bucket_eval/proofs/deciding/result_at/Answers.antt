use Rattle.std.proofs.Common.{is_some, ap}
use Rattle.bucket_eval.proofs.Known.{element-at}
use Rattle.bucket_eval.proofs.deciding.result_at.Goals as goal

pub result_of-requires : goal.result_of-requires
result_of-requires c =
    let here = element-at c.args.asking.now.buckets.now c.args.at c.requires.there in
    ap is_some (c.requires.weighed here.0 here.1).is.known.there
