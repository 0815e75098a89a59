-- The buckets of a database and their policies, by places in the list of buckets.
use Rattle.std.proofs.Common.{◌≡◌, ℕ, Bool, true, false, cond, zero, suc, List, [], ◌∷◌, ◌++◌, map, slice_get, None}
use Rattle.std.proofs.Common.{Some, refl, sym, ap, ◌∙◌, subst}
use Rattle.std.specs.declared.cmp.Ordering.TheVariants.{Less}
use Rattle.std.specs.List.{AllByRecursion, filter, find, flat_map}
use Rattle.std.specs.List.Sorted.{IsStrictlySortedBy}
use Rattle.std.specs.Ordering.{is_eq}
use Rattle.std.specs.Option.{option_map_or}
use Rattle.std.proofs.lemmas.List.{map-append, append-nil}
use Rattle.std.proofs.lemmas.List.Elements.{filter-append}
use Rattle.cynara_keys.specs.PolicyResult.{Ruling, deny}
use Rattle.cynara_keys.specs.Text.{same_text}
use Rattle.cynara_keys.specs.declared.keys.Policy.{Policy}
use Rattle.cynara_keys.proofs.Order.{same_text-≡, ≡-same_text, text_cmp-equal}
use Rattle.bucket_store.specs.Bucket.{Bucket}
use Rattle.bucket_store.specs.Database.{Heading, Placed, database_of, placed_of, heading_of}
use Rattle.bucket_store.specs.Order.{bucket_cmp}
use Rattle.bucket_eval.specs.Evaluation.{policies_of, fallback_of}

-- the policies of the buckets of a name
held : List Bucket → List ℕ → List Policy
held [] name = []
held (bucket ∷ buckets) name = cond (same_text bucket.name name) bucket.policies [] ++ held buckets name

policies-placed : (own name : List ℕ) (same : Bool) → same_text own name ≡ same → (policies : List Policy)
    → map (λ (placed : Placed). placed.policy) (filter (λ (placed : Placed). same_text placed.bucket name)
    (map (λ policy. record { bucket = own; policy = policy }) policies))
    ≡ cond same policies []
policies-placed own name true is [] = refl
policies-placed own name false is [] = refl
policies-placed own name true is (policy ∷ policies) =
    let rest = filter (λ (placed : Placed). same_text placed.bucket name)
    (map (λ (p : Policy). record { bucket = own; policy = p }) policies) in
    ap (λ b. map (λ (placed : Placed). placed.policy) (cond b (record { bucket = own; policy = policy } ∷ rest) rest))
    is
    ∙ ap (λ others. policy ∷ others) (policies-placed own name true is policies)
policies-placed own name false is (policy ∷ policies) =
    let rest = filter (λ (placed : Placed). same_text placed.bucket name)
    (map (λ (p : Policy). record { bucket = own; policy = p }) policies) in
    ap (λ b. map (λ (placed : Placed). placed.policy) (cond b (record { bucket = own; policy = policy } ∷ rest) rest))
    is
    ∙ policies-placed own name false is policies

policies_of-held : (buckets : List Bucket) (name : List ℕ) → policies_of (database_of buckets) name ≡ held buckets name
unfolding held
policies_of-held [] name = refl
policies_of-held (bucket ∷ buckets) name =
    let of_name : Placed → Bool = λ placed. same_text placed.bucket name in
    ap (map (λ (placed : Placed). placed.policy))
    (filter-append of_name (placed_of bucket) (flat_map placed_of buckets))
    ∙ map-append (λ (placed : Placed). placed.policy) (filter of_name (placed_of bucket))
    (filter of_name (flat_map placed_of buckets))
    ∙ ap (λ own. own ++ policies_of (database_of buckets) name)
    (policies-placed bucket.name name (same_text bucket.name name) refl bucket.policies)
    ∙ ap (λ others. cond (same_text bucket.name name) bucket.policies [] ++ others) (policies_of-held buckets name)

-- the bucket at the place comes behind, as all those behind do
behind : (first : Bucket) (buckets : List Bucket) (at : ℕ) (bucket : Bucket)
    → AllByRecursion (λ later. bucket_cmp first later ≡ Less) buckets → slice_get buckets at ≡ Some bucket
    → bucket_cmp first bucket ≡ Less
behind first [] at bucket all is = cc
behind first (other ∷ buckets) zero bucket all is =
    let same : other ≡ bucket = cc in subst (λ b. bucket_cmp first b ≡ Less) same all.0
behind first (other ∷ buckets) (suc at) bucket all is = behind first buckets at bucket all.1 is

apart : (first later : Bucket) → bucket_cmp first later ≡ Less → same_text first.name later.name ≡ false
apart first later before = sym (text_cmp-equal first.name later.name) ∙ ap is_eq before

apart-back : (first later : Bucket) → bucket_cmp first later ≡ Less → same_text later.name first.name ≡ false
apart-back first later before = turned (same_text later.name first.name) refl
  where
    turned : (same : Bool) → same_text later.name first.name ≡ same → same ≡ false
    turned true is =
        sym (≡-same_text first.name later.name (sym (same_text-≡ later.name first.name is))) ∙ apart first later before
    turned false is = refl

held-none : (first : Bucket) (buckets : List Bucket) → AllByRecursion (λ later. bucket_cmp first later ≡ Less) buckets
    → held buckets first.name ≡ []
unfolding held
held-none first [] all = refl
held-none first (bucket ∷ buckets) all =
    ap (λ same. cond same bucket.policies [] ++ held buckets first.name) (apart-back first bucket all.0)
    ∙ held-none first buckets all.1

held-own : (buckets : List Bucket) (at : ℕ) (bucket : Bucket) → IsStrictlySortedBy bucket_cmp buckets
    → slice_get buckets at ≡ Some bucket → held buckets bucket.name ≡ bucket.policies
unfolding held IsStrictlySortedBy
held-own [] at bucket rise is = cc
held-own (first ∷ buckets) zero bucket rise is =
    let same : first ≡ bucket = cc in
    subst (λ (b : Bucket). held (first ∷ buckets) b.name ≡ b.policies) same
    (ap (λ b. cond b first.policies [] ++ held buckets first.name) (≡-same_text first.name first.name refl)
    ∙ ap (λ others. first.policies ++ others) (held-none first buckets rise.0) ∙ append-nil first.policies)
held-own (first ∷ buckets) (suc at) bucket rise is =
    ap (λ b. cond b first.policies [] ++ held buckets bucket.name)
    (apart first bucket (behind first buckets at bucket rise.0 is))
    ∙ held-own buckets at bucket rise.1 is

-- the policies of the bucket at a place
pub policies_of-at : (buckets : List Bucket) (at : ℕ) (bucket : Bucket) → IsStrictlySortedBy bucket_cmp buckets
    → slice_get buckets at ≡ Some bucket → policies_of (database_of buckets) bucket.name ≡ bucket.policies
policies_of-at buckets at bucket rise is = policies_of-held buckets bucket.name ∙ held-own buckets at bucket rise is

find-at : (buckets : List Bucket) (at : ℕ) (bucket : Bucket) → IsStrictlySortedBy bucket_cmp buckets
    → slice_get buckets at ≡ Some bucket
    → find (λ (heading : Heading). same_text heading.name bucket.name) (map heading_of buckets) ≡ Some
    (heading_of bucket)
unfolding IsStrictlySortedBy
find-at [] at bucket rise is = cc
find-at (first ∷ buckets) zero bucket rise is =
    let same : first ≡ bucket = cc in
    subst (λ (b : Bucket). find (λ (heading : Heading). same_text heading.name b.name)
    (map heading_of (first ∷ buckets)) ≡ Some (heading_of b)) same
    (ap (λ b. cond b (Some (heading_of first))
    (find (λ (heading : Heading). same_text heading.name first.name) (map heading_of buckets)))
    (≡-same_text first.name first.name refl))
find-at (first ∷ buckets) (suc at) bucket rise is =
    ap (λ b. cond b (Some (heading_of first))
    (find (λ (heading : Heading). same_text heading.name bucket.name) (map heading_of buckets)))
    (apart first bucket (behind first buckets at bucket rise.0 is))
    ∙ find-at buckets at bucket rise.1 is

-- the fallback of the bucket at a place
pub fallback_of-at : (buckets : List Bucket) (at : ℕ) (bucket : Bucket) → IsStrictlySortedBy bucket_cmp buckets
    → slice_get buckets at ≡ Some bucket
    → fallback_of (database_of buckets) bucket.name
    ≡ record { result = bucket.fallback; cause = record { bucket = bucket.name; key = None } }
fallback_of-at buckets at bucket rise is =
    let denied : Ruling = record { kind = deny; metadata = [] } in
    let found : option_map_or (λ (heading : Heading). heading.fallback)
    (find (λ (heading : Heading). same_text heading.name bucket.name) (map heading_of buckets)) denied
    ≡ bucket.fallback =
    ap (λ o. option_map_or (λ (heading : Heading). heading.fallback) o denied) (find-at buckets at bucket rise is) in
    λ i. record { result = found i; cause = record { bucket = bucket.name; key = None } }
