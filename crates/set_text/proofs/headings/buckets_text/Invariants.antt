use Rattle.std.proofs.Common.{◌≡◌, map, take}
use Rattle.std.specs.List.{AllByRecursion}
use Rattle.bucket_store.specs.Bucket.{Bucket}
use Rattle.bucket_store.specs.Database.{heading_of}
use Rattle.set_text.specs.Buckets.{buckets_text}
use Rattle.set_text.specs.IsSpelt.{IsHeading}
use Rattle.set_text.proofs.headings.buckets_text.Given as goal

-- the lines so far
abbrev pub invariant-loop-bucket : goal.invariant-loop-bucket
invariant-loop-bucket l = record {
  text : l.text.items ≡ buckets_text (map heading_of (take l.bucket-index l.buckets));
  spelt : AllByRecursion (λ (bucket : Bucket). IsHeading (heading_of bucket)) (take l.bucket-index l.buckets);
}
