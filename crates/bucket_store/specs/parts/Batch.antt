-- What a list of changes makes of one bucket.
use Rattle.std.specs.Prelude.{ℕ, Bool, false, List, [], ◌∷◌, ◌++◌, ◌==◌}
use Rattle.std.specs.List.{filter, fold}
use Rattle.std.specs.Ordering.{is_lt, is_gt}
use Rattle.cynara_keys.specs.Text.{same_text}
use Rattle.cynara_keys.specs.Key.{key_cmp}
use Rattle.cynara_keys.specs.PolicyResult.{bucket}
use Rattle.cynara_keys.specs.Key.{Key}
use Rattle.cynara_keys.specs.declared.keys.Policy.{Policy}
use Rattle.bucket_store.specs.Bucket.{Bucket}
use Rattle.bucket_store.specs.declared.policy_changes.Change.{Change}
use Rattle.bucket_store.specs.declared.policy_changes.Change.TheVariants.{Set, Delete}

-- the bucket and the key that a change is about
abbrev pub name_of : Change → List ℕ
name_of (Set name key result) = name
name_of (Delete name key) = name

abbrev pub key_of : Change → Key
key_of (Set name key result) = key
key_of (Delete name key) = key

-- the policy that a change puts, if it puts one
abbrev pub effect : Change → List Policy
effect (Set name key result) = record { key = key; result = result } ∷ []
effect (Delete name key) = []

-- whether the change puts a policy that points to a bucket
abbrev pub is_link : Change → Bool
is_link (Set name key result) = result.kind == bucket
is_link (Delete name key) = false

-- the policies before the key, the one put, and those behind the key
abbrev pub edited : List Policy → Change → List Policy
edited policies change =
    filter (λ policy. is_lt (key_cmp policy.key (key_of change))) policies
    ++ (effect change ++ filter (λ policy. is_gt (key_cmp policy.key (key_of change))) policies)

-- the changes of one bucket
abbrev pub is_own : List ℕ → Change → Bool
is_own name change = same_text (name_of change) name

abbrev pub own : List ℕ → List Change → List Change
own name changes = filter (is_own name) changes

-- a bucket after the changes
abbrev pub changed : List Change → Bucket → Bucket
changed changes bucket = record {
  name = bucket.name;
  fallback = bucket.fallback;
  policies = fold edited bucket.policies (own bucket.name changes);
}
