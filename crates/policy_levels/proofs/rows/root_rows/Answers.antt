use Rattle.std.proofs.Common.{sym, subst}
use Rattle.bucket_store.specs.Database.{Database, root}
use Rattle.bucket_store.specs.Refusal.{Refuses, list}
use Rattle.policy_levels.proofs.Listing.{memory-alone}
use Rattle.policy_levels.proofs.rows.root_rows.Goals as goal

pub want_of_memory-requires : goal.want_of_memory-requires
want_of_memory-requires c =
    let formed = c.buckets-buckets.ensures.well_formed in
    memory-alone root c.args.database.now formed.sound formed.sound.root c.in-Err.refusal
    (subst (λ name. Refuses c.args.database.now (list name c.args.database.now) c.in-Err.refusal) c.root-name.ensures c.in-Err.ensures.refused)
