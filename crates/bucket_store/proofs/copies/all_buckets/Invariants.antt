use Rattle.std.proofs.Common.{◌≡◌, take}
use Rattle.bucket_store.proofs.copies.all_buckets.Given as goal

abbrev pub invariant-loop-bucket : goal.invariant-loop-bucket
invariant-loop-bucket l = l.copy.items ≡ take l.bucket-index l.buckets
