use Rattle.std.proofs.Common.{length, sym, ◌∙◌, subst}
use Rattle.bucket_store.specs.parts.Ending.{AreEnding}
use Rattle.bucket_store.proofs.Ending.{AreEnding-start}
use Rattle.bucket_store.proofs.cycles.least_on_cycle.Goals as goal

pub least_left-requires-clause-told : goal.least_left-requires-clause-told
least_left-requires-clause-told c =
    subst (AreEnding c.args.buckets.now) (sym (c.deref_mut.ensures.value ∙ c.in_ok-ended.ensures))
    (AreEnding-start c.args.buckets.now c.requires (length c.args.buckets.now))
