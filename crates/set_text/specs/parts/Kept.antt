-- What the buckets that are read keep.
use Rattle.std.specs.Prelude.{◌≡◌, ◌+◌, ◌≤◌, ◌==◌, ℕ, true, false, List, ◌∷◌, length, map}
use Rattle.std.specs.List.{AllByRecursion, list_any}
use Rattle.std.specs.List.Sorted.{IsStrictlySortedBy}
use Rattle.cynara_keys.specs.Text.{same_text}
use Rattle.cynara_keys.specs.declared.keys.Policy.{Policy}
use Rattle.bucket_store.specs.Bucket.{Bucket}
use Rattle.bucket_store.specs.Database.{Heading, heading_of, root}
use Rattle.bucket_store.specs.Order.{heading_cmp, policy_cmp}
use Rattle.bucket_store.specs.Refusal.{is_bad, most_buckets, most_policies}
use Rattle.set_text.specs.Buckets.{has_target}
use Rattle.set_text.specs.Reading.{policy_count}

-- the headings so far
pub record AreHeadings (headings : List Heading) : Type 0 where
  pub rise : IsStrictlySortedBy heading_cmp headings
  pub sound : AllByRecursion (λ (heading : Heading). is_bad heading ≡ false) headings
  pub few : length headings ≤ most_buckets
  -- the first is the root's
  pub rooted : (heading : Heading) (others : List Heading) → headings ≡ heading ∷ others → (length heading.name == 0)
      ≡ true

-- the policies of a bucket so far, behind so many in earlier buckets
pub record ArePolicies (headings : List Heading) (earlier : ℕ) (policies : List Policy) : Type 0 where
  pub rise : IsStrictlySortedBy policy_cmp policies
  pub targets : AllByRecursion (λ policy. has_target headings policy ≡ true) policies
  pub few : earlier + length policies ≤ most_policies

-- the buckets so far, of a database with these headings
pub record AreBuckets (headings : List Heading) (buckets : List Bucket) : Type 0 where
  pub rise : AllByRecursion (λ (bucket : Bucket). IsStrictlySortedBy policy_cmp bucket.policies) buckets
  pub targets : AllByRecursion
      (λ (bucket : Bucket). AllByRecursion (λ policy. has_target headings policy ≡ true) bucket.policies) buckets
  pub few : policy_count buckets ≤ most_policies

-- all buckets of a set of files
pub record AreSound (headings : List Heading) (buckets : List Bucket) : Type 0 where
  pub headings_are : AreHeadings headings
  pub root_there : list_any (λ (heading : Heading). same_text heading.name root) headings ≡ true
  pub buckets_are : AreBuckets headings buckets
  pub headed : map heading_of buckets ≡ headings
