-- A bucket removed, and policies erased.
use Rattle.std.proofs.Common.{◌≡◌, ℕ, ◌-◌, Bool, true, false, not, cond, ◌||◌, ◌&&◌, List, [], ◌∷◌, ◌++◌, length, map}
use Rattle.std.proofs.Common.{get_or, set, Some, None, refl, sym, ap, ◌∙◌, subst, arith}
use Rattle.std.specs.List.{AllByRecursion, filter, flat_map}
use Rattle.std.specs.List.Sorted.{IsStrictlySortedBy}
use Rattle.std.proofs.lemmas.Bool.{true≢false, not-true, or_parts, false_from_ne_true}
use Rattle.std.proofs.lemmas.List.{map-append, set_at, get_or_at}
use Rattle.std.proofs.lemmas.List.Elements.{filter-append}
use Rattle.std.proofs.lemmas.List.Filters.{length-filter_both}
use Rattle.std.proofs.lemmas.List.Kept.{IsStrictlySortedBy-filter}
use Rattle.cynara_keys.specs.Text.{same_text, text_cmp}
use Rattle.cynara_keys.specs.Key.{filter_admits}
use Rattle.cynara_keys.specs.declared.keys.Filter.{Filter}
use Rattle.cynara_keys.specs.declared.keys.Policy.{Policy}
use Rattle.cynara_keys.proofs.Order.{same_text-≡}
use Rattle.bucket_store.specs.Bucket.{Bucket}
use Rattle.bucket_store.specs.Database.{Heading, Placed, Database, root, has_bucket, heading_of, placed_of, database_of}
use Rattle.bucket_store.specs.Order.{bucket_cmp, policy_cmp}
use Rattle.bucket_store.specs.Walk.{target, points_to}
use Rattle.bucket_store.specs.Change.{concerns, without_bucket, is_admitted, erased, listed}
use Rattle.bucket_store.specs.Refusal.{fault, remove_bucket, root_bucket, bad_kind, limit, cycle, first_of, is_bad}
use Rattle.bucket_store.specs.WellFormed.{IsRooted, IsSound, IsKept}
use Rattle.bucket_store.specs.parts.Edit.{without_links, filled, bucket_of}
use Rattle.bucket_store.specs.parts.Search.{StandsAt}
use Rattle.bucket_store.specs.declared.refusals.StoreRefusal.TheVariants.{RootBucket}
use Rattle.bucket_store.proofs.Lists.{All-weaker, All-both, All-filter, All-passing, filter-map, any-filter}
use Rattle.bucket_store.proofs.Lists.{length-filter-≤}
use Rattle.bucket_store.proofs.Kept.{keep, placed-keep, headings-keep, database-keep, Kept-keep, Contains-filter}
use Rattle.bucket_store.proofs.Sound.{limit-sound, cycle-sound, named-found, others-apart, others-apart', tied-same}
use Rattle.bucket_store.proofs.Sound.{found-is, listed-read}
use Rattle.bucket_store.proofs.Walks.{NoCycle-tested, tested-NoCycle, NoCycle-fewer}

-- ---- a bucket removed

abbrev passes : List ℕ → Placed → Bool
passes name placed = not (concerns name placed)

abbrev other_name : List ℕ → Bucket → Bool
other_name name bucket = not (same_text bucket.name name)

-- a bucket of another name keeps the policies that don't point to the name
keep-other : (name : List ℕ) (bucket : Bucket) → same_text bucket.name name ≡ false
    → keep (passes name) bucket ≡ without_links name bucket
keep-other name bucket apart =
    ap (λ same. bucket_of bucket.name bucket.fallback
    (filter (λ policy. not (same || points_to name policy)) bucket.policies)) apart

pub removed-is : (name : List ℕ) (buckets : List Bucket)
    → map (without_links name) (filter (other_name name) buckets) ≡ filter (other_name name)
    (map (keep (passes name)) buckets)
removed-is name [] = refl
removed-is name (bucket ∷ buckets) = here (removed-is name buckets) (same_text bucket.name name) refl
  where
    here : map (without_links name) (filter (other_name name) buckets) ≡ filter (other_name name)
        (map (keep (passes name)) buckets)
        → (same : Bool) → same_text bucket.name name ≡ same
        → map (without_links name)
        (cond (not same) (bucket ∷ filter (other_name name) buckets) (filter (other_name name) buckets))
        ≡ cond (not same) (keep (passes name) bucket ∷ filter (other_name name) (map (keep (passes name)) buckets))
        (filter (other_name name) (map (keep (passes name)) buckets))
    here rest true is = rest
    here rest false is = λ i. sym (keep-other name bucket is) i ∷ rest i

-- a removed bucket's policies are all among those taken out
none-own : (name : List ℕ) (bucket : Bucket) → same_text bucket.name name ≡ true
    → filter (passes name) (placed_of bucket) ≡ []
none-own name bucket same =
    filter-map (passes name)
    (λ policy. let placed : Placed = record { bucket = bucket.name; policy = policy } in placed) bucket.policies
    ∙ ap (λ b. map (λ policy. let placed : Placed = record { bucket = bucket.name; policy = policy } in placed)
    (filter (λ policy. not (b || points_to name policy)) bucket.policies)) same
    ∙ ap (map (λ policy. let placed : Placed = record { bucket = bucket.name; policy = policy } in placed))
    (none bucket.policies)
  where
    none : (policies : List Policy) → filter (λ policy. false) policies ≡ []
    none [] = refl
    none (policy ∷ policies) = none policies

flat-removed : (name : List ℕ) (buckets : List Bucket)
    → flat_map placed_of (filter (other_name name) (map (keep (passes name)) buckets)) ≡ filter (passes name)
    (flat_map placed_of buckets)
flat-removed name [] = refl
flat-removed name (bucket ∷ buckets) =
    here (flat-removed name buckets) (same_text bucket.name name) refl
    ∙ sym (filter-append (passes name) (placed_of bucket) (flat_map placed_of buckets))
  where
    here : flat_map placed_of (filter (other_name name) (map (keep (passes name)) buckets)) ≡ filter (passes name)
        (flat_map placed_of buckets)
        → (same : Bool) → same_text bucket.name name ≡ same
        → flat_map placed_of
        (cond (not same) (keep (passes name) bucket ∷ filter (other_name name) (map (keep (passes name)) buckets))
        (filter (other_name name) (map (keep (passes name)) buckets)))
        ≡ filter (passes name) (placed_of bucket) ++ filter (passes name) (flat_map placed_of buckets)
    here rest true is = rest
        ∙ ap (λ own. own ++ filter (passes name) (flat_map placed_of buckets)) (sym (none-own name bucket is))
    here rest false is = λ i. placed-keep (passes name) bucket i ++ rest i

headings-removed : (name : List ℕ) (buckets : List Bucket)
    → map heading_of (filter (other_name name) (map (keep (passes name)) buckets))
    ≡ filter (λ (heading : Heading). not (same_text heading.name name)) (map heading_of buckets)
headings-removed name buckets =
    sym (filter-map (λ (heading : Heading). not (same_text heading.name name)) heading_of
    (map (keep (passes name)) buckets))
    ∙ ap (filter (λ (heading : Heading). not (same_text heading.name name))) (headings-keep (passes name) buckets)

database-removed : (name : List ℕ) (buckets : List Bucket)
    → database_of (filter (other_name name) (map (keep (passes name)) buckets)) ≡ without_bucket name
    (database_of buckets)
database-removed name buckets i =
    record { buckets = headings-removed name buckets i; policies = flat-removed name buckets i }

pub removed-view : (name : List ℕ) (buckets : List Bucket) (list : List Bucket)
    → list ≡ map (without_links name) (filter (other_name name) buckets)
    → database_of list ≡ without_bucket name (database_of buckets)
removed-view name buckets list is = ap database_of (is ∙ removed-is name buckets) ∙ database-removed name buckets

-- a bucket of another name is there still
has-without : (name other : List ℕ) (database : Database) → same_text other name ≡ false
    → has_bucket other database ≡ true
    → has_bucket other (without_bucket name database) ≡ true
has-without name other database apart has =
    any-filter (λ (heading : Heading). same_text heading.name other) (λ heading. not (same_text heading.name name))
    (λ heading same. ap (λ text. not (same_text text name)) (same_text-≡ heading.name other same) ∙ ap not apart)
    database.buckets has

rooted-still : (name : List ℕ) (database : Database) (placed : Placed) → (IsRooted database placed)
    × (passes name placed ≡ true)
    → IsRooted (without_bucket name database) placed
rooted-still name database placed is =
    let parts = or_parts (same_text placed.bucket name) (points_to name placed.policy)
    (not-true (concerns name placed) is.1) in
    record {
      own = has-without name placed.bucket database parts.0 is.0.own;
      target = λ links.
          has-without name (target placed.policy) database
          (ap (λ b. b && same_text (target placed.policy) name) (sym links) ∙ parts.1) (is.0.target links);
    }

pub Sound-removed : (name : List ℕ) (database : Database) → same_text root name ≡ false → IsSound database
    → IsSound (without_bucket name database)
Sound-removed name database apart sound = record {
  root = has-without name root database apart sound.root;
  fallbacks = All-filter (λ (heading : Heading). is_bad heading ≡ false) (λ heading. not (same_text heading.name name))
      database.buckets sound.fallbacks;
  rooted =
      All-weaker (λ (placed : Placed). (IsRooted database placed) × (passes name placed ≡ true))
      (IsRooted (without_bucket name database))
      (rooted-still name database) (filter (passes name) database.policies)
      (All-both (IsRooted database) (λ placed. passes name placed ≡ true) (filter (passes name) database.policies)
      (All-filter (IsRooted database) (passes name) database.policies sound.rooted)
      (All-passing (λ placed. passes name placed ≡ true) (passes name) (λ placed h. h) database.policies));
  buckets = omega (
    arith,
    sound.buckets,
    length-filter-≤ (λ (heading : Heading). not (same_text heading.name name)) database.buckets,
  );
  policies = omega (arith, sound.policies, length-filter-≤ (passes name) database.policies);
  no_cycle =
      tested-NoCycle (without_bucket name database)
      (NoCycle-fewer (filter (passes name) database.policies) database.policies
      (λ step there is. Contains-filter (passes name) database.policies step there)
      (NoCycle-tested database sound.rooted sound.no_cycle));
}

pub Kept-removed : (name : List ℕ) (buckets : List Bucket) (list : List Bucket)
    → list ≡ map (without_links name) (filter (other_name name) buckets) → same_text root name ≡ false → IsKept buckets
    → IsKept list
Kept-removed name buckets list is apart kept =
    let all = Kept-keep (passes name) buckets kept in
    subst IsKept (sym (is ∙ removed-is name buckets)) (record {
      names_rise = IsStrictlySortedBy-filter bucket_cmp (other_name name) (map (keep (passes name)) buckets)
          all.names_rise;
      keys_rise =
          All-filter (λ (bucket : Bucket). IsStrictlySortedBy policy_cmp bucket.policies) (other_name name)
          (map (keep (passes name)) buckets) all.keys_rise;
      sound = subst IsSound (sym (database-removed name buckets))
          (Sound-removed name (database_of buckets) apart kept.sound);
    })

pub removal-accepted : (name : List ℕ) (database : Database) → same_text root name ≡ false
    → has_bucket name database ≡ true
    → IsSound database → fault database (remove_bucket name database) ≡ None
removal-accepted name database apart has sound =
    let next = without_bucket name database in
    let still = Sound-removed name database apart sound in
    ap (λ rule. first_of (rule ∷ root_bucket (name ∷ []) ∷ bad_kind [] ∷ limit next ∷ cycle next ∷ []))
    (named-found name database has)
    ∙ ap (λ b. first_of (cond (b || false) (Some RootBucket) None ∷ bad_kind [] ∷ limit next ∷ cycle next ∷ [])) apart
    ∙ ap (λ rule. first_of (rule ∷ cycle next ∷ [])) (limit-sound next still)
    ∙ ap (λ rule. first_of (rule ∷ [])) (cycle-sound next still)

-- the root bucket is there, so a bucket that is not there is another
pub absent-apart : (name : List ℕ) (database : Database) → IsSound database → has_bucket name database ≡ false
    → root_bucket (name ∷ []) ≡ None
absent-apart name database sound gone =
    ap (λ b. cond (b || false) (Some RootBucket) None)
    (false_from_ne_true (same_text root name) (λ same.
    true≢false (sym sound.root ∙ ap (λ other. has_bucket other database) (same_text-≡ root name same) ∙ gone)))

-- ---- policies erased

abbrev left : List ℕ → Filter → Placed → Bool
left name admitted placed = not (is_admitted name admitted placed)

keep-apart : (name : List ℕ) (admitted : Filter) (bucket : Bucket) → same_text bucket.name name ≡ false
    → keep (left name admitted) bucket ≡ bucket
keep-apart name admitted bucket apart =
    ap (λ b. bucket_of bucket.name bucket.fallback
    (filter (λ policy. not (b && filter_admits admitted policy.key)) bucket.policies)) apart
    ∙ ap (bucket_of bucket.name bucket.fallback) (all bucket.policies)
  where
    all : (policies : List Policy) → filter (λ policy. true) policies ≡ policies
    all [] = refl
    all (policy ∷ policies) = ap (λ rest. policy ∷ rest) (all policies)

keep-same : (name : List ℕ) (admitted : Filter) (bucket : Bucket) → same_text bucket.name name ≡ true
    → keep (left name admitted) bucket
    ≡ bucket_of bucket.name bucket.fallback (filter (λ policy. not (filter_admits admitted policy.key)) bucket.policies)
keep-same name admitted bucket same =
    ap (λ b. bucket_of bucket.name bucket.fallback
    (filter (λ policy. not (b && filter_admits admitted policy.key)) bucket.policies)) same

keep-none : (name : List ℕ) (admitted : Filter) (buckets : List Bucket)
    → AllByRecursion (λ (bucket : Bucket). same_text bucket.name name ≡ false) buckets
    → map (keep (left name admitted)) buckets ≡ buckets
keep-none name admitted [] all = refl
keep-none name admitted (bucket ∷ buckets) all =
    λ i. keep-apart name admitted bucket all.0 i ∷ keep-none name admitted buckets all.1 i

module _ (name : List ℕ) (admitted : Filter) (buckets : List Bucket) (at : ℕ)
    (stands : StandsAt (λ (bucket : Bucket). text_cmp bucket.name name) buckets at) (bucket : Bucket)
    (is : bucket ≡ get_or buckets at bucket) where
  abbrev rest : List Policy
  rest = filter (λ policy. not (filter_admits admitted policy.key)) bucket.policies

  -- the one bucket with what is left
  pub filled-is : filled at rest buckets ≡ map (keep (left name admitted)) buckets
  filled-is =
      let none : Bucket = bucket_of [] (record { kind = 0; metadata = [] }) [] in
      let element = stands.element in
      let found : bucket ≡ element = found-is buckets at stands bucket is in
      let there : get_or buckets at none ≡ element =
      ap (λ xs. get_or xs at none) stands.parts
      ∙ get_or_at stands.front element stands.back none at stands.length_front in
      let left_of : Bucket → Bucket =
      λ own. bucket_of own.name own.fallback
      (filter (λ policy. not (filter_admits admitted policy.key)) own.policies) in
      let written : filled at rest buckets ≡ set buckets at (left_of element) =
      (λ i. set buckets at
      (bucket_of (there i).name (there i).fallback
      (filter (λ policy. not (filter_admits admitted policy.key)) (found i).policies))) in
      written
      ∙ ap (λ xs. set xs at (left_of element)) stands.parts
      ∙ set_at stands.front element stands.back (left_of element) at stands.length_front
      ∙ (λ i. sym (keep-none name admitted stands.front (others-apart name stands.front stands.before)) i
      ++ (sym (keep-same name admitted element (tied-same name element stands.ties)) i
      ∷ sym (keep-none name admitted stands.back (others-apart' name stands.back stands.behind)) i))
      ∙ sym (map-append (keep (left name admitted)) stands.front (element ∷ stands.back))
      ∙ ap (map (keep (left name admitted))) (sym stands.parts)

  pub erased-view : (list : List Bucket) → list ≡ filled at rest buckets
      → database_of list ≡ erased name admitted (database_of buckets)
  erased-view list made = ap database_of (made ∙ filled-is) ∙ database-keep (left name admitted) buckets

  pub Kept-erased : (list : List Bucket) → list ≡ filled at rest buckets → IsKept buckets → IsKept list
  Kept-erased list made kept = subst IsKept (sym (made ∙ filled-is)) (Kept-keep (left name admitted) buckets kept)

  pub count-erased : (database : Database) → database_of buckets ≡ database
      → length bucket.policies - length rest ≡ length (listed name admitted database)
  count-erased database view =
      let both = length-filter_both (λ (policy : Policy). filter_admits admitted policy.key)
      (λ policy. not (filter_admits admitted policy.key)) (λ policy. refl) bucket.policies in
      let same = ap length (listed-read name admitted database buckets view at stands bucket is) in
      omega (arith, both, same)
