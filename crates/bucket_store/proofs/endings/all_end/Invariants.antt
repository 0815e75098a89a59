use Rattle.std.proofs.Common.{take}
use Rattle.std.specs.List.{AllByRecursion}
use Rattle.bucket_store.specs.parts.Ending.{AreEnding, ChangeEnds}
use Rattle.bucket_store.proofs.endings.all_end.Given as goal

abbrev pub invariant-loop-change : goal.invariant-loop-change
invariant-loop-change l =
    AreEnding l.buckets l.ended × AllByRecursion (ChangeEnds l.buckets) (take l.change-index l.changes)
