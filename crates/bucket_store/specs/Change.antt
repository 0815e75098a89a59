-- What each change makes of a database: a filter on its lists, and an element put in its place.
use Rattle.std.specs.Prelude.{ℕ, Bool, ◌&&◌, ◌||◌, not, List, map}
use Rattle.std.specs.List.{filter, fold}
use Rattle.cynara_keys.specs.Text.{same_text}
use Rattle.cynara_keys.specs.Key.{same_key, filter_admits}
use Rattle.cynara_keys.specs.Key.{Key}
use Rattle.cynara_keys.specs.declared.keys.Filter.{Filter}
use Rattle.cynara_keys.specs.declared.keys.Policy.{Policy}
use Rattle.bucket_store.specs.Database.{Database, Heading, Placed}
use Rattle.bucket_store.specs.Order.{heading_cmp, placed_cmp, put}
use Rattle.bucket_store.specs.Walk.{points_to}
use Rattle.bucket_store.specs.declared.policy_changes.Change.{Change}
use Rattle.bucket_store.specs.declared.policy_changes.Change.TheVariants.{Set, Delete}

-- a bucket made, or its fallback changed
abbrev pub with_bucket : Heading → Database → Database
with_bucket heading database =
    record { buckets = put heading_cmp heading database.buckets; policies = database.policies }

-- whether the policy is in the bucket or points to it
abbrev pub concerns : List ℕ → Placed → Bool
concerns name placed = same_text placed.bucket name || points_to name placed.policy

-- a bucket removed, with its policies and those of all buckets that point to it
abbrev pub without_bucket : List ℕ → Database → Database
without_bucket name database = record {
  buckets = filter (λ heading. not (same_text heading.name name)) database.buckets;
  policies = filter (λ placed. not (concerns name placed)) database.policies;
}

-- whether the policy is the one of this bucket and key
abbrev pub is_at : List ℕ → Key → Placed → Bool
is_at name key placed = same_text placed.bucket name && same_key placed.policy.key key

-- the policies after one change: a policy put in its place, or taken out
abbrev pub after_change : List Placed → Change → List Placed
after_change policies (Set name key result) =
    put placed_cmp (record { bucket = name; policy = record { key = key; result = result } }) policies
after_change policies (Delete name key) = filter (λ placed. not (is_at name key placed)) policies

-- the changes made in their order
abbrev pub with_changes : List Change → Database → Database
with_changes changes database =
    record { buckets = database.buckets; policies = fold after_change database.policies changes }

-- whether the policy is in the bucket and the filter admits its key
abbrev pub is_admitted : List ℕ → Filter → Placed → Bool
is_admitted name filter placed = same_text placed.bucket name && filter_admits filter placed.policy.key

-- the admitted policies of a bucket, in the order of their keys
abbrev pub listed : List ℕ → Filter → Database → List Policy
listed name admitted database = map (λ placed. placed.policy) (filter (is_admitted name admitted) database.policies)

-- all policies but those
abbrev pub erased : List ℕ → Filter → Database → Database
erased name admitted database = record {
  buckets = database.buckets;
  policies = filter (λ placed. not (is_admitted name admitted placed)) database.policies;
}
