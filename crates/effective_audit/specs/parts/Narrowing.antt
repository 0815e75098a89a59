-- The policies that concern one application and one user, and the numbers by which their rows are taken.
use Rattle.std.specs.Prelude.{ℕ, ◌+◌, Bool, ◌&&◌, List, [], ◌∷◌, map}
use Rattle.std.specs.List.{filter, position_or_len}
use Rattle.cynara_keys.specs.Field.{field_matches}
use Rattle.cynara_keys.specs.Text.{same_text}
use Rattle.cynara_keys.specs.declared.fields.Field.{Field}
use Rattle.cynara_keys.specs.declared.fields.Field.TheVariants.{Any, Exact}
use Rattle.cynara_keys.specs.declared.keys.Policy.{Policy}
use Rattle.bucket_store.specs.Bucket.{Bucket}
use Rattle.bucket_store.specs.parts.Rows.{at_places}
use Rattle.lane_scan.specs.Rows.{Row, numbers_of}
use Rattle.lane_scan.specs.Asked.{covers}

-- the number of a name: one more than its place, or than the place of the end where it is none of these
abbrev pub place_number : List (List ℕ) → List ℕ → ℕ
place_number names name = position_or_len (same_text name) names + 1

-- 0 for the wildcard, and else the number of the name
abbrev pub number_of : List (List ℕ) → Field → ℕ
number_of names Any = 0
number_of names (Exact name) = place_number names name

-- 0 for the wildcard, and 1 for the one name that is asked for
abbrev pub mark_of : Field → ℕ
mark_of Any = 0
mark_of (Exact name) = 1

abbrev pub row_of : List (List ℕ) → Policy → Row
row_of privileges policy = record {
  client = mark_of policy.key.client;
  user = mark_of policy.key.user;
  privilege = number_of privileges policy.key.privilege;
}

-- whether the policy is for the application and the user
abbrev pub concerns : List ℕ → List ℕ → Policy → Bool
concerns client user policy = field_matches policy.key.client client && field_matches policy.key.user user

-- a bucket, its policies that concern an application and a user, and their rows
pub record Narrow : Type 0 where
  pub bucket : Bucket
  pub policies : List Policy
  pub rows : List Row

abbrev pub narrow_of : List (List ℕ) → List ℕ → List ℕ → Bucket → Narrow
narrow_of privileges client user bucket =
    let near : List Policy = filter (concerns client user) bucket.policies in record {
      bucket = bucket;
      policies = near;
      rows = map (row_of privileges) near;
    }

-- the bucket with the policies whose rows speak of the privilege with this number
abbrev pub chosen : ℕ → Narrow → Bucket
chosen number narrow = record {
  name = narrow.bucket.name;
  fallback = narrow.bucket.fallback;
  policies = at_places narrow.policies (numbers_of (covers (1 ∷ 1 ∷ number ∷ [])) narrow.rows);
}
