-- The places of buckets that walks lead to, in the order in which they were found.
use Rattle.std.specs.Prelude.{◌≡◌, ◌<◌, ◌+◌, ℕ, Bool, not, ◌==◌, if◌then◌else◌}
use Rattle.std.specs.Prelude.{List, [], ◌∷◌, ◌++◌, length, Option, Some, None}
use Rattle.std.specs.List.{list_any, filter, fold}
use Rattle.cynara_keys.specs.declared.keys.Policy.{Policy}
use Rattle.bucket_store.specs.Bucket.{Bucket}
use Rattle.bucket_store.specs.parts.Ending.{flag, link_place}

abbrev pub has_place : List ℕ → ℕ → Bool
has_place places at = list_any (λ place. place == at) places

-- with the place at the end, where it is not among them
abbrev pub with_place : List ℕ → Option ℕ → List ℕ
with_place places None = places
with_place places (Some at) = if has_place places at then places else places ++ at ∷ []

-- with the places of the buckets that the policies point to
abbrev pub with_links : List Bucket → List ℕ → List Policy → List ℕ
with_links buckets places policies =
    fold (λ found (policy : Policy). with_place found (link_place buckets policy.result)) places policies

-- the flags tell which places are there, each of them once
pub record IsFlagged (flags : List Bool) (places : List ℕ) : Type 0 where
  pub tells : (at : ℕ) → at < length flags → flag flags at ≡ has_place places at
  pub once : length places + length (filter (λ flag. not flag) flags) ≡ length flags
