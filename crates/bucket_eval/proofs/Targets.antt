-- The bucket that a policy points to is there.
use Rattle.std.proofs.Common.{◌≡◌, ℕ, ◌+◌, ◌<◌, Bool, true, false, not, ◌||◌, cond, zero, suc, List, [], ◌∷◌, length}
use Rattle.std.proofs.Common.{map, slice_get, get_or, None, Some, sym, ap, subst, arith}
use Rattle.std.specs.List.{AllByRecursion, list_any, flat_map, position, position_or_len}
use Rattle.std.proofs.lemmas.Bool.{false≢true, lt-ltb}
use Rattle.std.proofs.lemmas.List.Quantifiers.{position-Some}
use Rattle.std.proofs.lemmas.Option.{slice_get-get_or}
use Rattle.cynara_keys.specs.Text.{same_text}
use Rattle.cynara_keys.specs.declared.keys.Policy.{Policy}
use Rattle.cynara_keys.proofs.Order.{same_text-≡}
use Rattle.bucket_store.specs.Bucket.{Bucket}
use Rattle.bucket_store.specs.Database.{Heading, Placed, database_of, placed_of, heading_of, has_bucket}
use Rattle.bucket_store.specs.Walk.{points, target}
use Rattle.bucket_store.specs.WellFormed.{IsKept, IsRooted}
use Rattle.bucket_store.proofs.Lists.{All-front, All-back}

all-placed : (P : Placed → Type 0) (name : List ℕ) (policies : List Policy) (place : ℕ) (policy : Policy)
    → AllByRecursion P (map (λ p. record { bucket = name; policy = p }) policies)
    → slice_get policies place ≡ Some policy
    → P (record { bucket = name; policy = policy })
all-placed P name [] place policy all is = cc
all-placed P name (first ∷ policies) zero policy all is =
    let same : first ≡ policy = cc in subst (λ p. P (record { bucket = name; policy = p })) same all.0
all-placed P name (first ∷ policies) (suc place) policy all is = all-placed P name policies place policy all.1 is

pub all-at : (P : Placed → Type 0) (buckets : List Bucket) (at : ℕ) (bucket : Bucket) (place : ℕ) (policy : Policy)
    → AllByRecursion P (flat_map placed_of buckets) → slice_get buckets at ≡ Some bucket
    → slice_get bucket.policies place ≡ Some policy → P (record { bucket = bucket.name; policy = policy })
all-at P [] at bucket place policy all is there = cc
all-at P (first ∷ buckets) zero bucket place policy all is there =
    let same : first ≡ bucket = cc in
    all-placed P bucket.name bucket.policies place policy
    (subst (λ (b : Bucket). AllByRecursion P (placed_of b)) same
    (All-front P (placed_of first) (flat_map placed_of buckets) all)) there
all-at P (first ∷ buckets) (suc at) bucket place policy all is there =
    all-at P buckets at bucket place policy (All-back P (placed_of first) (flat_map placed_of buckets) all)
    is there

any-below : (name : List ℕ) (buckets : List Bucket)
    → list_any (λ (heading : Heading). same_text heading.name name) (map heading_of buckets) ≡ true
    → position_or_len (λ (bucket : Bucket). same_text bucket.name name) buckets < length buckets
any-below name [] any = absurd (false≢true any)
any-below name (bucket ∷ buckets) any = first (same_text bucket.name name) any (any-below name buckets)
  where
    first : (same : Bool) → same
        || list_any (λ (heading : Heading). same_text heading.name name) (map heading_of buckets) ≡ true
        → (list_any (λ (heading : Heading). same_text heading.name name) (map heading_of buckets) ≡ true
        → position_or_len (λ (b : Bucket). same_text b.name name) buckets < length buckets)
        → cond (not same) (1 + position_or_len (λ (b : Bucket). same_text b.name name) buckets) 0 < suc (length buckets)
    first true is below = omega arith
    first false is below = (let less = below is in omega arith)

position-there : (name : List ℕ) (buckets : List Bucket) → has_bucket name (database_of buckets) ≡ true
    → position (λ (bucket : Bucket). same_text bucket.name name) buckets
    ≡ Some (position_or_len (λ (bucket : Bucket). same_text bucket.name name) buckets)
position-there name buckets there =
    let place = position_or_len (λ (bucket : Bucket). same_text bucket.name name) buckets in
    ap (λ b. cond b (Some place) None) (lt-ltb place (length buckets) (any-below name buckets there))

-- a policy's target has a place
pub target-there : (buckets : List Bucket) (at : ℕ) (bucket : Bucket) (place : ℕ) (policy : Policy) → IsKept buckets
    → slice_get buckets at ≡ Some bucket → slice_get bucket.policies place ≡ Some policy → points policy ≡ true
    → (name : List ℕ) → name ≡ target policy
    → position (λ (other : Bucket). same_text other.name name) buckets ≡ None → ⊥
target-there buckets at bucket place policy kept is there points name named none =
    let rooted = all-at (IsRooted (database_of buckets)) buckets at bucket place policy kept.sound.rooted is there in
    let found = position-there name buckets
    (subst (λ n. has_bucket n (database_of buckets) ≡ true) (sym named) (rooted.target points)) in
    cc

-- the bucket at that place is the target
pub target-at : (buckets : List Bucket) (name : List ℕ) (below : ℕ)
    → position (λ (other : Bucket). same_text other.name name) buckets ≡ Some below
    → (bucket : Bucket) × (slice_get buckets below ≡ Some bucket) × (bucket.name ≡ name) × (below < length buckets)
target-at [] name below is = cc
target-at (first ∷ buckets) name below is =
    let facts = position-Some (λ (other : Bucket). same_text other.name name) (first ∷ buckets) below first is in
    let bucket : Bucket = get_or (first ∷ buckets) below first in
    (bucket, slice_get-get_or (first ∷ buckets) below first facts.0, same_text-≡ bucket.name name facts.1, facts.0)
