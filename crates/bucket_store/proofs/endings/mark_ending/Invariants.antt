use Rattle.bucket_store.specs.parts.Ending.{AreEnding}
use Rattle.bucket_store.proofs.endings.mark_ending.Given as goal

abbrev pub invariant-loop-at : goal.invariant-loop-at
invariant-loop-at l = AreEnding l.buckets l.ended
