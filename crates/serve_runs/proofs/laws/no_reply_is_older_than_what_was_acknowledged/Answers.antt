use Rattle.serve_runs.proofs.OneList.{above_hung}
use Rattle.serve_runs.proofs.laws.no_reply_is_older_than_what_was_acknowledged.Goals as goal

pub returns : goal.returns
returns c = above_hung
