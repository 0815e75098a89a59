use Rattle.std.proofs.Common.{length, sym, ◌∙◌, subst}
use Rattle.bucket_store.specs.parts.Ending.{AreEnding}
use Rattle.bucket_store.proofs.Ending.{AreEnding-start}
use Rattle.bucket_store.proofs.endings.changes_end.Goals as goal

pub all_end-requires-clause-told : goal.all_end-requires-clause-told
all_end-requires-clause-told c =
    subst (AreEnding c.args.buckets.now) (sym (c.deref_mut.ensures.value ∙ c.in_ok-ended.ensures))
    (AreEnding-start c.args.buckets.now c.requires (length c.args.buckets.now))
