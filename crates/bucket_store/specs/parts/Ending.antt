-- Which buckets a walk leads to a cycle from.
use Rattle.std.specs.Prelude.{◌≡◌, ◌<◌, ℕ, Bool, true, false, ◌==◌, if◌then◌else◌, List, [], length, slice_index_or}
use Rattle.std.specs.Prelude.{Option, Some, None}
use Rattle.std.specs.List.{position, flat_map}
use Rattle.cynara_keys.specs.Text.{same_text}
use Rattle.cynara_keys.specs.PolicyResult.{Ruling, bucket}
use Rattle.bucket_store.specs.Bucket.{Bucket}
use Rattle.bucket_store.specs.Database.{Placed, placed_of}
use Rattle.bucket_store.specs.Walk.{Leads, IsOnCycle}
use Rattle.bucket_store.specs.declared.policy_changes.Change.{Change}
use Rattle.bucket_store.specs.declared.policy_changes.Change.TheVariants.{Set, Delete}
use Rattle.bucket_store.specs.parts.Edit.{bucket_of}

abbrev pub bucket_at : List Bucket → ℕ → Bucket
bucket_at buckets at = slice_index_or buckets at (bucket_of [] (record { kind = 0; metadata = [] }) [])

abbrev pub name_at : List Bucket → ℕ → List ℕ
name_at buckets at = (bucket_at buckets at).name

-- the place of the bucket that the result sends on to, if it sends on to one
abbrev pub link_place : List Bucket → Ruling → Option ℕ
link_place buckets ruling =
    if ruling.kind == bucket then position (λ (bucket : Bucket). same_text bucket.name ruling.metadata) buckets
    else None

-- no walk from the bucket leads to one on a cycle
abbrev pub Ends : List Placed → List ℕ → Type 0
Ends policies from = (to : List ℕ) → Leads policies from to → IsOnCycle policies to → ⊥

-- the same for the bucket that the result sends on to
abbrev pub LinkEnds : List Bucket → Ruling → Type 0
LinkEnds buckets ruling =
    (at : ℕ) → link_place buckets ruling ≡ Some at → Ends (flat_map placed_of buckets) (name_at buckets at)

-- the same for the policy that the change puts
abbrev pub ChangeEnds : List Bucket → Change → Type 0
ChangeEnds buckets (Set name key result) = LinkEnds buckets result
ChangeEnds buckets (Delete name key) = Unit {0}

abbrev pub flag : List Bool → ℕ → Bool
flag flags at = slice_index_or flags at false

-- the same for each bucket whose flag is set
abbrev pub AreEnding : List Bucket → List Bool → Type 0
AreEnding buckets flags =
    (at : ℕ) → flag flags at ≡ true → Ends (flat_map placed_of buckets) (name_at buckets at)

-- the bucket at the place is on a cycle, and none before it
pub record IsLeastAt (buckets : List Bucket) (at : ℕ) : Type 0 where
  pub in_range : at < length buckets
  pub on_cycle : IsOnCycle (flat_map placed_of buckets) (name_at buckets at)
  pub before : (other : ℕ) → other < at → IsOnCycle (flat_map placed_of buckets) (name_at buckets other) → ⊥

-- the place of the least bucket on a cycle, or that none is on one
abbrev pub IsLeast : List Bucket → Option ℕ → Type 0
IsLeast buckets (Some at) = IsLeastAt buckets at
IsLeast buckets None = (name : List ℕ) → IsOnCycle (flat_map placed_of buckets) name → ⊥
