use Rattle.std.proofs.Common.{◌≡◌, take}
use Rattle.bucket_store.specs.parts.Batch.{own}
use Rattle.bucket_store.proofs.merges.own_changes.Given as goal

abbrev pub invariant-loop-change : goal.invariant-loop-change
invariant-loop-change l = l.own.items ≡ own l.name (take l.change-index l.changes)
