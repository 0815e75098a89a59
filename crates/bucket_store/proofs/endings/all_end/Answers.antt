use Rattle.bucket_store.specs.parts.Ending.{ChangeEnds}
use Rattle.bucket_store.proofs.Ending.{All-more}
use Rattle.bucket_store.proofs.endings.all_end.Goals as goal

pub loop-change-preserved : goal.loop-change-preserved
loop-change-preserved c = (
  c.change_ends.ensures.told,
  All-more (ChangeEnds c.args.buckets.now) c.args.changes.now c.loop-change.change-index c.change-item.result
      c.loop-change-test.true c.change-item.is c.loop-change.invariant.1
      (c.change_ends.ensures.ends c.if-not-change_ends.false),
)
