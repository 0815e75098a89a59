use Rattle.bucket_eval.proofs.Depth.{depth-changes-nothing}
use Rattle.bucket_eval.proofs.laws.depth_changes_nothing.Goals as goal

pub returns : goal.returns
returns c = depth-changes-nothing c.args.database.now c.buckets-buckets.ensures.well_formed
