use Rattle.bucket_store.proofs.Merging.{IsMerging}
use Rattle.bucket_store.proofs.merges.merged.Given as goal

abbrev pub invariant-loop-change : goal.invariant-loop-change
invariant-loop-change l = IsMerging l.policies l.changes l.copy.items l.from l.change-index
