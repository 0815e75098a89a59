use Rattle.std.proofs.Common.{◌≡◌, take, not, map}
use Rattle.std.specs.List.{filter}
use Rattle.cynara_keys.specs.Text.{same_text}
use Rattle.bucket_store.specs.Bucket.{Bucket}
use Rattle.bucket_store.specs.parts.Edit.{without_links}
use Rattle.bucket_store.proofs.edits.without_bucket.Given as goal

abbrev pub invariant-loop-bucket : goal.invariant-loop-bucket
invariant-loop-bucket l =
    l.copy.items ≡ map (without_links l.name)
    (filter (λ (bucket : Bucket). not (same_text bucket.name l.name)) (take l.bucket-index l.buckets))
