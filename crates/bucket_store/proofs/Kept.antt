-- What keeps a database's buckets in order and sound.
use Rattle.std.proofs.Common.{◌≡◌, Bool, List, [], ◌∷◌, ◌++◌, map, refl, sym, ap, ◌∙◌, subst, arith}
use Rattle.std.specs.declared.cmp.Ordering.TheVariants.{Less}
use Rattle.std.specs.List.{filter, flat_map, Contains}
use Rattle.std.specs.List.Sorted.{IsStrictlySortedBy}
use Rattle.std.proofs.lemmas.List.Elements.{filter-append, All-from_recursion, recursion_from_All, All-contains}
use Rattle.std.proofs.lemmas.List.Elements.{All-contains_itself}
use Rattle.std.proofs.lemmas.List.Kept.{IsStrictlySortedBy-filter}
use Rattle.cynara_keys.specs.Text.{text_cmp}
use Rattle.cynara_keys.specs.PolicyResult.{deny}
use Rattle.bucket_store.specs.Bucket.{Bucket}
use Rattle.bucket_store.specs.Database.{Placed, Database, heading_of, placed_of, database_of}
use Rattle.bucket_store.specs.Order.{bucket_cmp, policy_cmp}
use Rattle.bucket_store.specs.Walk.{reaches}
use Rattle.bucket_store.specs.WellFormed.{IsRooted, IsSound, IsKept}
use Rattle.bucket_store.proofs.Lists.{All-weaker, All-filter, All-map, filter-map, length-filter-≤}
use Rattle.bucket_store.proofs.Walks.{NoCycle-tested, tested-NoCycle, NoCycle-fewer}

-- ---- the root bucket alone

pub fresh_kept : IsKept (record { name = []; fallback = record { kind = deny; metadata = [] }; policies = [] } ∷ [])
unfolding reaches IsStrictlySortedBy
fresh_kept = record {
  names_rise = (tt, tt);
  keys_rise = (tt, tt);
  sound = record {
    root = refl;
    fallbacks = (refl, tt);
    rooted = tt;
    buckets = omega arith;
    policies = omega arith;
    no_cycle = λ name. refl;
  };
}

-- ---- policies taken out

-- a bucket's policies that pass
abbrev pub keep : (Placed → Bool) → Bucket → Bucket
keep passes bucket = record {
  name = bucket.name;
  fallback = bucket.fallback;
  policies = filter (λ policy. passes (record { bucket = bucket.name; policy = policy })) bucket.policies;
}

pub placed-keep : (passes : Placed → Bool) (bucket : Bucket)
    → placed_of (keep passes bucket) ≡ filter passes (placed_of bucket)
placed-keep passes bucket =
    sym (filter-map passes (λ policy. let placed : Placed = record { bucket = bucket.name; policy = policy } in placed)
    bucket.policies)

pub flat-keep : (passes : Placed → Bool) (buckets : List Bucket)
    → flat_map placed_of (map (keep passes) buckets) ≡ filter passes (flat_map placed_of buckets)
flat-keep passes [] = refl
flat-keep passes (bucket ∷ buckets) =
    ap (λ own. own ++ flat_map placed_of (map (keep passes) buckets)) (placed-keep passes bucket)
    ∙ ap (λ rest. filter passes (placed_of bucket) ++ rest) (flat-keep passes buckets)
    ∙ sym (filter-append passes (placed_of bucket) (flat_map placed_of buckets))

pub headings-keep : (passes : Placed → Bool) (buckets : List Bucket)
    → map heading_of (map (keep passes) buckets) ≡ map heading_of buckets
headings-keep passes [] = refl
headings-keep passes (bucket ∷ buckets) = ap (λ rest. heading_of bucket ∷ rest) (headings-keep passes buckets)

-- the database without the policies that don't pass
abbrev pub kept_of : (Placed → Bool) → Database → Database
kept_of passes database = record { buckets = database.buckets; policies = filter passes database.policies }

pub database-keep : (passes : Placed → Bool) (buckets : List Bucket)
    → database_of (map (keep passes) buckets) ≡ kept_of passes (database_of buckets)
database-keep passes buckets i =
    record { buckets = headings-keep passes buckets i; policies = flat-keep passes buckets i }

-- an order by name alone doesn't see the policies
names-rise-map : (change : Bucket → Bucket) → ((bucket : Bucket) → (change bucket).name ≡ bucket.name)
    → (buckets : List Bucket)
    → IsStrictlySortedBy bucket_cmp buckets → IsStrictlySortedBy bucket_cmp (map change buckets)
unfolding IsStrictlySortedBy
names-rise-map change same [] rising = tt
names-rise-map change same (bucket ∷ buckets) rising = (
  All-map (λ (other : Bucket). bucket_cmp (change bucket) other ≡ Less) change buckets
      (All-weaker (λ (other : Bucket). bucket_cmp bucket other ≡ Less)
      (λ other. bucket_cmp (change bucket) (change other) ≡ Less)
      (λ other before. ap (λ name. text_cmp name (change other).name) (same bucket)
      ∙ ap (text_cmp bucket.name) (same other) ∙ before)
      buckets rising.0),
  names-rise-map change same buckets rising.1,
)

pub names-rise-same : (change : Bucket → Bucket) → ((bucket : Bucket) → (change bucket).name ≡ bucket.name)
    → (buckets : List Bucket)
    → IsStrictlySortedBy bucket_cmp buckets → IsStrictlySortedBy bucket_cmp (map change buckets)
names-rise-same = names-rise-map

pub Contains-filter : {X : Type 0} (test : X → Bool) (xs : List X) (x : X) → Contains (filter test xs) x → Contains xs x
Contains-filter test xs x there =
    All-contains (Contains xs) (filter test xs) x
    (All-from_recursion (Contains xs) (filter test xs)
    (All-filter (Contains xs) test xs (recursion_from_All (Contains xs) xs (All-contains_itself xs)))) there

pub Sound-kept : (passes : Placed → Bool) (database : Database) → IsSound database → IsSound (kept_of passes database)
Sound-kept passes database sound = record {
  root = sound.root;
  fallbacks = sound.fallbacks;
  rooted =
      All-filter (IsRooted (kept_of passes database)) passes database.policies
      (All-weaker (IsRooted database) (IsRooted (kept_of passes database))
      (λ placed is. record { own = is.own; target = is.target }) database.policies sound.rooted);
  buckets = sound.buckets;
  policies = omega (arith, sound.policies, length-filter-≤ passes database.policies);
  no_cycle =
      tested-NoCycle (kept_of passes database)
      (NoCycle-fewer (filter passes database.policies) database.policies
      (λ step there is. Contains-filter passes database.policies step there)
      (NoCycle-tested database sound.rooted sound.no_cycle));
}

pub Kept-keep : (passes : Placed → Bool) (buckets : List Bucket) → IsKept buckets → IsKept (map (keep passes) buckets)
Kept-keep passes buckets kept = record {
  names_rise = names-rise-map (keep passes) (λ bucket. refl) buckets kept.names_rise;
  keys_rise =
      All-map (λ (bucket : Bucket). IsStrictlySortedBy policy_cmp bucket.policies) (keep passes) buckets
      (All-weaker (λ (bucket : Bucket). IsStrictlySortedBy policy_cmp bucket.policies)
      (λ bucket. IsStrictlySortedBy policy_cmp (keep passes bucket).policies)
      (λ bucket. IsStrictlySortedBy-filter policy_cmp
      (λ policy. passes (record { bucket = bucket.name; policy = policy })) bucket.policies)
      buckets kept.keys_rise);
  sound = subst IsSound (sym (database-keep passes buckets)) (Sound-kept passes (database_of buckets) kept.sound);
}
