use Rattle.std.proofs.Common.{◌≡◌, ◌+◌, take, length}
use Rattle.std.specs.List.{flat_map}
use Rattle.bucket_store.specs.Database.{placed_of}
use Rattle.bucket_store.proofs.batches.is_more_than.Given as goal

abbrev pub invariant-loop-bucket : goal.invariant-loop-bucket
invariant-loop-bucket l = l.room + length (flat_map placed_of (take l.bucket-index l.buckets)) ≡ l.most
