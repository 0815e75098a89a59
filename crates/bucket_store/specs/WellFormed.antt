-- What every database keeps.
use Rattle.std.specs.Prelude.{◌≡◌, ◌≤◌, ◌<◌, ℕ, true, false, List, length}
use Rattle.std.specs.List.{AllByRecursion}
use Rattle.std.specs.List.Sorted.{IsStrictlySortedBy}
use Rattle.bucket_store.specs.Bucket.{Bucket}
use Rattle.bucket_store.specs.Database.{Database, Heading, Placed, root, has_bucket, database_of}
use Rattle.bucket_store.specs.Order.{heading_cmp, placed_cmp, bucket_cmp, policy_cmp}
use Rattle.bucket_store.specs.Walk.{points, target, is_on_cycle, IsWalk}
use Rattle.bucket_store.specs.Refusal.{is_bad, most_buckets, most_policies}

-- each bucket that a policy names is there: its own, and the one that it points to
pub record IsRooted (database : Database) (placed : Placed) : Type 0 where
  pub own : has_bucket placed.bucket database ≡ true
  pub target : points placed.policy ≡ true → has_bucket (target placed.policy) database ≡ true

pub record IsSound (database : Database) : Type 0 where
  pub root : has_bucket root database ≡ true
  pub fallbacks : AllByRecursion (λ (heading : Heading). is_bad heading ≡ false) database.buckets
  pub rooted : AllByRecursion (IsRooted database) database.policies
  pub buckets : length database.buckets ≤ most_buckets
  pub policies : length database.policies ≤ most_policies
  pub no_cycle : (name : List ℕ) → is_on_cycle database name ≡ false

pub record IsWellFormed (database : Database) : Type 0 where
  pub sound : IsSound database
  pub names_rise : IsStrictlySortedBy heading_cmp database.buckets
  -- so each bucket and key has at most one policy
  pub keys_rise : IsStrictlySortedBy placed_cmp database.policies
  -- no walk has as many policies as there are buckets
  pub walks_end : (from : List ℕ) (steps : List Placed) → has_bucket from database ≡ true
      → IsWalk database.policies from steps
      → length steps < length database.buckets

-- what the buckets of a database keep
pub record IsKept (buckets : List Bucket) : Type 0 where
  pub names_rise : IsStrictlySortedBy bucket_cmp buckets
  pub keys_rise : AllByRecursion (λ (bucket : Bucket). IsStrictlySortedBy policy_cmp bucket.policies) buckets
  pub sound : IsSound (database_of buckets)
