use Rattle.std.proofs.Common.{subst, sym, ap, ◌∙◌, List, ℕ, take, drop, suc}
use Rattle.std.specs.List.{flat_map}
use Rattle.bucket_store.specs.Database.{database_of}
use Rattle.bucket_store.specs.Refusal.{no_bucket, named_by}
use Rattle.bucket_store.specs.parts.Naming.{NamesFirst}
use Rattle.bucket_store.proofs.Accepting.{first-named, names-around, names-more, none-more}
use Rattle.bucket_store.proofs.named.all_named.Goals as goal

pub returns-in-Err : goal.returns-in-Err
returns-in-Err c =
    let i = c.loop-change.change-index in
    let changes = c.args.changes.now in
    let change = c.change-item.result in
    let database = database_of c.args.buckets.now in
    subst (λ (names : List (List ℕ)). NamesFirst names database c.in-Err.refusal)
    (sym (names-around changes i change c.loop-change-test.true c.change-item.is))
    (first-named database (flat_map named_by (take i changes)) (named_by change)
    (flat_map named_by (drop (suc i) changes)) c.in-Err.refusal
    c.loop-change.invariant c.in-Err.ensures)

pub loop-change-preserved : goal.loop-change-preserved
loop-change-preserved c =
    let i = c.loop-change.change-index in
    let changes = c.args.changes.now in
    let change = c.change-item.result in
    let database = database_of c.args.buckets.now in
    let told = rw c.in_default.is at c.both_named.ensures in
    ap (λ names. no_bucket names database) (names-more changes i change c.loop-change-test.true c.change-item.is)
    ∙ none-more database (flat_map named_by (take i changes)) (named_by change) c.loop-change.invariant told
