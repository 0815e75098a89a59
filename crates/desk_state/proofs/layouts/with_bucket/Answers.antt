use Rattle.std.proofs.Common.{◌≡◌, ◌+◌, ◌≤◌, false, length, sym, subst}
use Rattle.bucket_store.specs.Database.{Database, Heading}
use Rattle.bucket_store.specs.Refusal as store
use Rattle.desk_state.specs.Layout.{heading}
use Rattle.desk_state.proofs.Laying.{put-most, with-room, only-memory}
use Rattle.desk_state.proofs.layouts.with_bucket.Goals as goal

pub returns-in-Ok-set_bucket-clause-more : goal.returns-in-Ok-set_bucket-clause-more
returns-in-Ok-set_bucket-clause-more c =
    let database = c.args.database.now in
    let new : Heading = record { name = c.in-Ok.name; fallback = c.without_metadata-fallback.result } in
    subst (λ (other : Database). length other.buckets ≤ length database.buckets + 1) (sym c.in-Ok-set_bucket.ensures.next)
    (put-most new database.buckets)

pub returns-clause-refused : goal.returns-clause-refused
returns-clause-refused c =
    let database = c.args.database.now in
    let new : Heading = record { name = c.in-Ok.name; fallback = c.without_metadata-fallback.result } in
    let headings : new ≡ heading c.args.name.now c.args.kind.0 =
    (λ i. record { name = c.in-Ok.ensures i; fallback = c.without_metadata-fallback.ensures i }) in
    let good = subst (λ (other : Heading). store.is_bad other ≡ false) (sym headings) c.requires.kind in
    only-memory database (store.set_bucket c.in-Ok.name c.without_metadata-fallback.result database)
    (with-room new database c.buckets.ensures.well_formed.sound good c.requires.room) c.in-Err-set_bucket.refusal
    c.in-Err-set_bucket.ensures.refused
