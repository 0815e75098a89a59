-- The buckets that a set of files gives are those of a database, where none of them reaches itself.
use Rattle.std.proofs.Common.{◌≡◌, ℕ, ◌+◌, ◌≤◌, Bool, true, false, not, ◌||◌, List, [], ◌∷◌, length, map, Option, Some}
use Rattle.std.proofs.Common.{None, is_some, find, option_map, refl, sym, ap, ◌∙◌, subst, zero-add, length-append}
use mathlib.Core.Bool.{true≢false}
use Rattle.std.specs.List.{AllByRecursion, list_any, flat_map}
use Rattle.std.specs.List.Sorted.{IsStrictlySortedBy}
use Rattle.std.specs.declared.cmp.Ordering.TheVariants.{Less}
use Rattle.std.proofs.lemmas.List.{length-map}
use Rattle.std.proofs.lemmas.List.Sums.{sum_by-append}
use Rattle.cynara_keys.specs.Text.{same_text}
use Rattle.cynara_keys.specs.declared.keys.Policy.{Policy}
use Rattle.cynara_keys.proofs.Order.{same_text-≡, ≡-same_text}
use Rattle.bucket_store.specs.Bucket.{Bucket}
use Rattle.bucket_store.specs.Database.{Database, Heading, Placed, root, has_bucket, heading_of, placed_of, database_of}
use Rattle.bucket_store.specs.Order.{heading_cmp, bucket_cmp}
use Rattle.bucket_store.specs.Refusal.{is_bad, most_buckets, most_policies, cycle}
use Rattle.bucket_store.specs.Walk.{points, target, is_on_cycle}
use Rattle.bucket_store.specs.WellFormed.{IsRooted, IsKept}
use Rattle.bucket_store.specs.declared.refusals.StoreRefusal.TheVariants.{Cycle}
use Rattle.bucket_store.proofs.Lists.{All-append, All-weaker, All-unmap}
use Rattle.bucket_store.proofs.Walks.{NoCycle, Within-walk, is_on_cycle-Leads, tested-NoCycle}
use Rattle.app_registry.proofs.Filters.{none_does}
use Rattle.set_text.specs.Buckets.{has_target}
use Rattle.set_text.specs.Reading.{policy_count}
use Rattle.set_text.specs.parts.Kept.{AreBuckets, AreSound}

or-true : (b : Bool) → (b || true) ≡ true
or-true true = refl
or-true false = refl

-- ---- names that rise

pub buckets-rise : (buckets : List Bucket) → IsStrictlySortedBy heading_cmp (map heading_of buckets)
    → IsStrictlySortedBy bucket_cmp buckets
unfolding IsStrictlySortedBy
buckets-rise [] rise = tt
buckets-rise (bucket ∷ buckets) rise = (
  All-unmap (λ (other : Heading). heading_cmp (heading_of bucket) other
      ≡ Less) heading_of buckets rise.0,
  buckets-rise buckets rise.1,
)

-- ---- buckets that are there

own-buckets : (buckets : List Bucket)
    → AllByRecursion (λ (bucket : Bucket). list_any (λ (heading : Heading). same_text heading.name bucket.name)
    (map heading_of buckets) ≡ true) buckets
own-buckets [] = tt
own-buckets (first ∷ buckets) = (
  ap (λ b. b || list_any (λ (heading : Heading). same_text heading.name first.name) (map heading_of buckets))
      (≡-same_text first.name first.name refl),
  All-weaker
      (λ (bucket : Bucket). list_any (λ (heading : Heading). same_text heading.name bucket.name)
      (map heading_of buckets) ≡ true)
      (λ (bucket : Bucket). list_any (λ (heading : Heading). same_text heading.name bucket.name)
      (map heading_of (first ∷ buckets)) ≡ true)
      (λ bucket there. ap (λ b. same_text first.name bucket.name || b) there
      ∙ or-true (same_text first.name bucket.name))
      buckets (own-buckets buckets),
)

module _ (database : Database) (headings : List Heading) (same : database.buckets ≡ headings) where
  target-there : (policy : Policy) → has_target headings policy ≡ true → points policy ≡ true
      → has_bucket (target policy) database ≡ true
  target-there policy there points_is =
      ap (list_any (λ (heading : Heading). same_text heading.name (target policy))) same
      ∙ sym (ap (λ b. not b || list_any
      (λ (heading : Heading). same_text heading.name (target policy)) headings) points_is) ∙ there

  placed-rooted : (name : List ℕ) (policies : List Policy) → has_bucket name database ≡ true
      → AllByRecursion (λ policy. has_target headings policy ≡ true) policies
      → AllByRecursion (IsRooted database)
      (map (λ policy. let placed : Placed = record { bucket = name; policy = policy } in placed) policies)
  placed-rooted name [] own all = tt
  placed-rooted name (policy ∷ policies) own all =
      (record { own = own; target = target-there policy all.0 }, placed-rooted name policies own all.1)

  flat-rooted : (buckets : List Bucket)
      → AllByRecursion (λ (bucket : Bucket). has_bucket bucket.name database ≡ true) buckets
      → AllByRecursion (λ (bucket : Bucket). AllByRecursion
      (λ policy. has_target headings policy ≡ true) bucket.policies) buckets
      → AllByRecursion (IsRooted database) (flat_map placed_of buckets)
  flat-rooted [] own all = tt
  flat-rooted (bucket ∷ buckets) own all =
      All-append (IsRooted database) (placed_of bucket) (flat_map placed_of buckets)
      (placed-rooted bucket.name bucket.policies own.0 all.0) (flat-rooted buckets own.1 all.1)

pub rooted-of : (headings : List Heading) (buckets : List Bucket) → map heading_of buckets ≡ headings
    → AreBuckets headings buckets
    → AllByRecursion (IsRooted (database_of buckets)) (database_of buckets).policies
rooted-of headings buckets same are = flat-rooted (database_of buckets) headings same buckets
    (own-buckets buckets) are.targets

-- ---- counts

flat-length : (buckets : List Bucket) → length (flat_map placed_of buckets) ≡ policy_count buckets
flat-length [] = refl
flat-length (bucket ∷ buckets) =
    let here : length (placed_of bucket) ≡ length bucket.policies = length-map bucket.policies _ in
    let all : length (flat_map placed_of (bucket ∷ buckets))
    ≡ length (placed_of bucket) + length (flat_map placed_of buckets) =
    length-append (placed_of bucket) (flat_map placed_of buckets) in
    let counts : policy_count (bucket ∷ buckets) ≡ policy_count (bucket ∷ []) + policy_count buckets =
    sum_by-append (λ (bucket : Bucket). length bucket.policies) (bucket ∷ []) buckets in
    let own : policy_count (bucket ∷ []) ≡ length bucket.policies = zero-add (length bucket.policies) in
    all ∙ ap (λ n. n + length (flat_map placed_of buckets)) (here ∙ sym own)
    ∙ ap (λ n. policy_count (bucket ∷ []) + n) (flat-length buckets) ∙ sym counts

-- ---- cycles

map-none : (found : Option (List ℕ)) → is_some (option_map (λ name. Cycle name) found) ≡ false → found ≡ None
map-none None h = refl
map-none (Some name) h = cc

named-none : (test : List ℕ → Bool) (name : List ℕ) (headings : List Heading)
    → AllByRecursion (λ name. test name ≡ false) (map (λ (heading : Heading). heading.name) headings)
    → list_any (λ (heading : Heading). same_text heading.name name) headings ≡ true → test name ≡ false
named-none test name [] all there = cc
named-none test name (heading ∷ headings) all there =
    by (named-none test name headings all.1) (same_text heading.name name) refl there
  where
    by : (list_any (λ (heading : Heading). same_text heading.name name) headings ≡ true → test name ≡ false)
        → (b : Bool) → same_text heading.name name ≡ b
        → (b || list_any (λ (heading : Heading). same_text heading.name name) headings) ≡ true → test name ≡ false
    by later true is there = subst (λ name. test name ≡ false) (same_text-≡ heading.name name is) all.0
    by later false is there = later there

pub no-cycle : (database : Database) → AllByRecursion (IsRooted database) database.policies
    → is_some (cycle database) ≡ false
    → (name : List ℕ) → is_on_cycle database name ≡ false
no-cycle database rooted none =
    let names = map (λ (heading : Heading). heading.name) database.buckets in
    let tested = none_does (is_on_cycle database) names (map-none (find (is_on_cycle database) names) none) in
    let free : NoCycle database.policies = λ name lead.
    let own = (Within-walk database rooted name (lead.first ∷ lead.others) lead.walks).0 in
    let there = subst (λ name. has_bucket name database ≡ true) lead.walks.0.own own in
    true≢false (sym (is_on_cycle-Leads database rooted name lead)
    ∙ named-none (is_on_cycle database) name database.buckets tested there) in
    tested-NoCycle database free

-- ---- the buckets of a database

pub kept-of : (headings : List Heading) (buckets : List Bucket) → AreSound headings buckets
    → is_some (cycle (database_of buckets)) ≡ false → IsKept buckets
kept-of headings buckets sound none =
    let heads = sound.headings_are in
    let rooted = rooted-of headings buckets sound.headed sound.buckets_are in
    record {
      names_rise = buckets-rise buckets (subst (IsStrictlySortedBy heading_cmp) (sym sound.headed) heads.rise);
      keys_rise = sound.buckets_are.rise;
      sound = record {
        root = ap (list_any (λ (heading : Heading). same_text heading.name root)) sound.headed ∙ sound.root_there;
        fallbacks = subst (AllByRecursion (λ (heading : Heading). is_bad heading ≡ false))
            (sym sound.headed) heads.sound;
        rooted = rooted;
        buckets = subst (λ (list : List Heading). length list ≤ most_buckets) (sym sound.headed) heads.few;
        policies = subst (λ (n : ℕ). n ≤ most_policies) (sym (flat-length buckets)) sound.buckets_are.few;
        no_cycle = no-cycle (database_of buckets) rooted none;
      };
    }
