use Rattle.std.proofs.Common.{◌≡◌, sym, ap, ◌∙◌, List, false, IfOk, Result, Ok, Err}
use Rattle.std.specs.List.{list_any}
use Rattle.bucket_store.specs.Bucket.{Bucket}
use Rattle.bucket_store.specs.parts.Batch.{is_own, changed}
use Rattle.bucket_store.specs.declared.policy_changes.Change.{Change}
use Rattle.bucket_store.proofs.Changing.{untouched}
use Rattle.bucket_store.proofs.batches.changed_bucket.Goals as goal

shared : {E : Type 0} (r : Result Bucket E) (bucket : Bucket) (changes : List Change) → IfOk r (λ copy. copy ≡ bucket)
    → list_any (is_own bucket.name) changes ≡ false → IfOk r (λ copy. copy ≡ changed changes bucket)
shared (Ok copy) bucket changes is none = is ∙ sym (untouched bucket changes none)
shared (Err error) bucket changes is none = tt

pub returns-then-not-is_touched : goal.returns-then-not-is_touched
returns-then-not-is_touched c =
    shared c.share.result c.args.bucket.now c.args.changes.now c.share.ensures
    (ap (λ name. list_any (is_own name) c.args.changes.now) (sym c.name.ensures) ∙ sym c.is_touched.ensures
    ∙ c.if-not-is_touched.true)
