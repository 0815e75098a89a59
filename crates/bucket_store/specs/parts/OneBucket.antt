-- Changes that are all of one bucket.
use Rattle.std.specs.Prelude.{◌≡◌, ◌<◌, ◌≤◌, ◌+◌, ℕ, true, false, List, length, None}
use Rattle.std.specs.List.{fold, flat_map, list_all, list_any}
use Rattle.cynara_keys.specs.Text.{text_cmp}
use Rattle.bucket_store.specs.Bucket.{Bucket}
use Rattle.bucket_store.specs.Database.{database_of, placed_of}
use Rattle.bucket_store.specs.Refusal.{no_bucket, named_by, most_policies}
use Rattle.bucket_store.specs.declared.policy_changes.Change.{Change}
use Rattle.bucket_store.specs.parts.Batch.{edited, is_own, is_link}
use Rattle.bucket_store.specs.parts.Edit.{bucket_of}
use Rattle.bucket_store.specs.parts.Search.{StandsAt}

-- the bucket after changes that are its own
abbrev pub edited_by : List Change → Bucket → Bucket
edited_by changes bucket = bucket_of bucket.name bucket.fallback (fold edited bucket.policies changes)

-- the bucket at the place is the one that all changes are about
pub record IsOwnPlace (buckets : List Bucket) (changes : List Change) (at : ℕ) : Type 0 where
  pub name : List ℕ
  pub own : list_all (is_own name) changes ≡ true
  pub stands : StandsAt (λ (bucket : Bucket). text_cmp bucket.name name) buckets at
  pub in_range : at < length buckets

-- the changes are of this one bucket, and keep the rules
pub record ChangesOne (buckets : List Bucket) (changes : List Change) (at : ℕ) : Type 0 where
  pub place : IsOwnPlace buckets changes at
  pub named : no_bucket (flat_map named_by changes) (database_of buckets) ≡ None
  pub unlinked : list_any is_link changes ≡ false
  pub short : length (flat_map placed_of buckets) + length changes ≤ most_policies
