-- A policy database, as contracts see it: the buckets in rising order of name, and the policies of all of them in one
-- plain list, in the order of their buckets' names and then of their keys. So equal databases are equal values.
use Rattle.std.specs.Prelude.{ℕ, Bool, List, [], ◌∷◌, map}
use Rattle.std.specs.List.{list_any, flat_map}
use Rattle.cynara_keys.specs.Text.{same_text}
use Rattle.cynara_keys.specs.PolicyResult.{Ruling, deny}
use Rattle.cynara_keys.specs.declared.keys.Policy.{Policy}
use Rattle.bucket_store.specs.Bucket.{Bucket}

-- the name and the fallback of a bucket
pub record Heading : Type 0 where
  pub name : List ℕ
  pub fallback : Ruling

-- a policy in its bucket
pub record Placed : Type 0 where
  pub bucket : List ℕ
  pub policy : Policy

pub record Database : Type 0 where
  pub buckets : List Heading
  pub policies : List Placed

-- the root bucket's name is empty
abbrev pub root : List ℕ
root = []

-- the root bucket alone, which denies, without a policy
abbrev pub fresh : Database
fresh = record {
  buckets = record { name = root; fallback = record { kind = deny; metadata = [] } } ∷ [];
  policies = [];
}

abbrev pub has_bucket : List ℕ → Database → Bool
has_bucket name database = list_any (λ heading. same_text heading.name name) database.buckets

-- ---- the buckets with their policies, seen as a database

abbrev pub heading_of : Bucket → Heading
heading_of bucket = record { name = bucket.name; fallback = bucket.fallback }

abbrev pub placed_of : Bucket → List Placed
placed_of bucket = map (λ policy. record { bucket = bucket.name; policy = policy }) bucket.policies

abbrev pub database_of : List Bucket → Database
database_of buckets = record { buckets = map heading_of buckets; policies = flat_map placed_of buckets }
