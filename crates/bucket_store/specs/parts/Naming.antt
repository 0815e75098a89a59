-- Refusals that name a bucket.
use Rattle.std.specs.Prelude.{◌≡◌, ℕ, List, Some}
use Rattle.bucket_store.specs.Database.{Database}
use Rattle.bucket_store.specs.Refusal.{no_bucket}
use Rattle.bucket_store.specs.declared.refusals.StoreRefusal.{StoreRefusal}
use Rattle.bucket_store.specs.declared.refusals.StoreRefusal.TheVariants.{NoBucket, Cycle, Memory}

-- the name of a bucket that is not there, or want of memory for the name
abbrev pub NamesAbsent : List ℕ → StoreRefusal → Type 0
NamesAbsent name (Memory error) = Unit {0}
NamesAbsent name refusal = refusal ≡ NoBucket name

-- the refusal names the first of the buckets that is not there, or is want of memory for its name
abbrev pub NamesFirst : List (List ℕ) → Database → StoreRefusal → Type 0
NamesFirst names database (Memory error) = Unit {0}
NamesFirst names database refusal = no_bucket names database ≡ Some refusal

-- the refusal names the bucket that is on a cycle, or is want of memory for its name
abbrev pub NamesCycle : List ℕ → StoreRefusal → Type 0
NamesCycle name (Memory error) = Unit {0}
NamesCycle name refusal = refusal ≡ Cycle name
