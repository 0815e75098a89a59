use Rattle.std.proofs.Common.{◌≡◌, map, take}
use Rattle.bucket_store.specs.parts.Batch.{changed}
use Rattle.bucket_store.proofs.batches.changed_buckets.Given as goal

abbrev pub invariant-loop-bucket : goal.invariant-loop-bucket
invariant-loop-bucket l = l.copy.items ≡ map (changed l.changes) (take l.bucket-index l.buckets)
