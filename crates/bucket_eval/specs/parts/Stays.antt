-- What stays of the buckets of a database.
use Rattle.std.specs.Prelude.{◌≡◌, ℕ, List, length, Some, slice_get}
use Rattle.bucket_store.specs.Bucket.{Bucket}

-- as many buckets, and those at each place have one name
pub record AreNamedAlike (before buckets : List Bucket) : Type 0 where
  pub count : length before ≡ length buckets
  pub names : (at : ℕ) (old bucket : Bucket) → slice_get before at ≡ Some old → slice_get buckets at ≡ Some bucket
      → old.name ≡ bucket.name

-- the fallback and the policies are the same
pub record Stayed (before bucket : Bucket) : Type 0 where
  pub fallback : before.fallback ≡ bucket.fallback
  pub policies : before.policies ≡ bucket.policies
