use Rattle.bucket_store.proofs.Walks.{NoCycle-tested}
use Rattle.bucket_eval.proofs.laws.no_cycle.Goals as goal

pub returns : goal.returns
returns c =
    let formed = c.buckets-buckets.ensures.well_formed in
    NoCycle-tested c.args.database.now formed.sound.rooted formed.sound.no_cycle
