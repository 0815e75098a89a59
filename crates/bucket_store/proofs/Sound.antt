-- What a sound database never breaks, and what a search says of its buckets.
use Rattle.std.proofs.Common.{◌≡◌, ℕ, ◌+◌, Bool, true, false, not, cond, ◌||◌, ◌&&◌, nat_lt, List, [], ◌∷◌, ◌++◌}
use Rattle.std.proofs.Common.{length, map, Result, Ok, Err, IfOk, IfErr, Some, None, get_or, suc, append-nil, refl, sym}
use Rattle.std.proofs.Common.{ap, ◌∙◌}
use Rattle.std.specs.Option.{option_map}
use Rattle.std.specs.Result.{result_ok}
use Rattle.std.specs.declared.cmp.Ordering.{Ordering}
use Rattle.std.specs.declared.cmp.Ordering.TheVariants.{Less, Equal, Greater}
use Rattle.std.specs.List.{AllByRecursion, filter, list_any, flat_map, find, position, prefix_len}
use Rattle.std.specs.List.Sorted.{IsStrictlySortedBy}
use Rattle.std.specs.Ordering.{is_eq}
use Rattle.std.proofs.lemmas.Bool.{le-ltb}
use Rattle.std.proofs.lemmas.List.Elements.{filter-append}
use Rattle.std.proofs.lemmas.Grind.{flat_map-append}
use Rattle.cynara_keys.specs.Text.{same_text, text_cmp}
use Rattle.cynara_keys.specs.Key.{filter_admits}
use Rattle.cynara_keys.specs.declared.keys.Policy.{Policy}
use Rattle.cynara_keys.specs.declared.keys.Filter.{Filter}
use Rattle.cynara_keys.proofs.Order.{text_cmp-equal}
use Rattle.bucket_store.specs.Bucket.{Bucket}
use Rattle.bucket_store.specs.Database.{Heading, Placed, Database, has_bucket, heading_of, placed_of, database_of}
use Rattle.bucket_store.specs.Walk.{is_on_cycle}
use Rattle.bucket_store.specs.Change.{is_admitted, listed}
use Rattle.bucket_store.specs.Refusal.{limit, cycle, most_buckets, most_policies, no_bucket, root_bucket, bad_kind}
use Rattle.bucket_store.specs.Refusal.{first_of, fault, Refuses}
use Rattle.bucket_store.specs.parts.Naming.{NamesAbsent}
use Rattle.bucket_store.specs.WellFormed.{IsSound, IsKept, IsWellFormed}
use Rattle.bucket_store.specs.parts.Search.{StandsAt, BelongsAt}
use Rattle.cynara_keys.specs.declared.limits.Counted.TheVariants.{Buckets, Policies}
use Rattle.bucket_store.specs.declared.refusals.StoreRefusal.{StoreRefusal}
use Rattle.bucket_store.specs.declared.refusals.StoreRefusal.TheVariants.{NoBucket, RootBucket, BadKind, Limit, Cycle}
use Rattle.bucket_store.specs.declared.refusals.StoreRefusal.TheVariants.{Memory}
use Rattle.bucket_store.proofs.Lists.{All-weaker, filter-none, filter-map, All-map}
use Rattle.bucket_store.specs.Order.{bucket_cmp, heading_cmp, policy_cmp, placed_cmp}
use Rattle.bucket_store.proofs.Lists.{All-append}
use Rattle.bucket_store.proofs.Searching.{position-StandsAt, position-BelongsAt, strictly-append}
use Rattle.bucket_store.proofs.Walks.{walks_end}
use Rattle.std.specs.Cmp.{IsTotalOrder}
use Rattle.std.specs.Ordering.{ordering_then}
use Rattle.std.proofs.lemmas.Cmp.{on_total, then_total, tied_itself}
use Rattle.std.proofs.lemmas.List.{get_or_at}
use Rattle.std.proofs.lemmas.Bool.{or_left, or_right}
use Rattle.std.specs.Ordering.{is_eq}
use Rattle.cynara_keys.proofs.Order.{text_total, key_total}

-- ---- limits and cycles

pub limit-sound : (database : Database) → IsSound database → limit database ≡ None
limit-sound database sound =
    ap (λ b. cond b (Some (Limit Buckets most_buckets))
    (cond (nat_lt most_policies (length database.policies)) (Some (Limit Policies most_policies)) None))
    (le-ltb most_buckets (length database.buckets) sound.buckets)
    ∙ ap (λ b. cond b (Some (Limit Policies most_policies)) None)
    (le-ltb most_policies (length database.policies) sound.policies)

pub find-none : {X : Type 0} (test : X → Bool) → ((x : X) → test x ≡ false) → (xs : List X) → find test xs ≡ None
find-none test none [] = refl
find-none test none (x ∷ xs) = ap (λ b. cond b (Some x) (find test xs)) (none x) ∙ find-none test none xs

pub cycle-sound : (database : Database) → IsSound database → cycle database ≡ None
cycle-sound database sound =
    ap (option_map (λ name. Cycle name))
    (find-none (is_on_cycle database) sound.no_cycle (map (λ (heading : Heading). heading.name) database.buckets))

-- ---- a database's lists rise

pub headings-rise : (buckets : List Bucket) → IsStrictlySortedBy bucket_cmp buckets
    → IsStrictlySortedBy heading_cmp (map heading_of buckets)
unfolding IsStrictlySortedBy
headings-rise [] rising = tt
headings-rise (bucket ∷ buckets) rising = (
  All-map (λ (other : Heading). heading_cmp (heading_of bucket) other ≡ Less) heading_of buckets rising.0,
  headings-rise buckets rising.1,
)

pub policy_total : IsTotalOrder policy_cmp
policy_total = on_total (λ (policy : Policy). policy.key) key_total

pub placed_total : IsTotalOrder placed_cmp
placed_total =
    then_total (on_total (λ (placed : Placed). placed.bucket) text_total)
    (on_total (λ (placed : Placed). placed.policy) policy_total)

abbrev place : List ℕ → Policy → Placed
place name policy = record { bucket = name; policy = policy }

placed-own : (name : List ℕ) (policy other : Policy)
    → placed_cmp (place name policy) (place name other) ≡ policy_cmp policy other
placed-own name policy other = ap (λ o. ordering_then o (policy_cmp policy other)) (tied_itself text_total name)

placed-rise : (name : List ℕ) (policies : List Policy) → IsStrictlySortedBy policy_cmp policies
    → IsStrictlySortedBy placed_cmp (map (place name) policies)
unfolding IsStrictlySortedBy
placed-rise name [] rising = tt
placed-rise name (policy ∷ policies) rising = (
  All-map (λ (other : Placed). placed_cmp (place name policy) other ≡ Less) (place name) policies
      (All-weaker (λ (other : Policy). policy_cmp policy other ≡ Less)
      (λ other. placed_cmp (place name policy) (place name other) ≡ Less)
      (λ other before. placed-own name policy other ∙ before) policies rising.0),
  placed-rise name policies rising.1,
)

-- a fact of each placed policy from one of the buckets' names
pub All-flat : (P : Placed → Type 0) (Q : Bucket → Type 0)
    → ((bucket : Bucket) → Q bucket → (policy : Policy) → P (record { bucket = bucket.name; policy = policy }))
    → (buckets : List Bucket) → AllByRecursion Q buckets → AllByRecursion P (flat_map placed_of buckets)
All-flat P Q gives [] all = tt
All-flat P Q gives (bucket ∷ buckets) all =
    All-append P (placed_of bucket) (flat_map placed_of buckets)
    (All-map P (place bucket.name) bucket.policies (every bucket.policies)) (All-flat P Q gives buckets all.1)
  where
    every : (policies : List Policy) → AllByRecursion (λ policy. P (place bucket.name policy)) policies
    every [] = tt
    every (policy ∷ policies) = (gives bucket all.0 policy, every policies)

pub flat-rises : (buckets : List Bucket) → IsStrictlySortedBy bucket_cmp buckets
    → AllByRecursion (λ (bucket : Bucket). IsStrictlySortedBy policy_cmp bucket.policies) buckets
    → IsStrictlySortedBy placed_cmp (flat_map placed_of buckets)
unfolding IsStrictlySortedBy
flat-rises [] rising keys = tt
flat-rises (bucket ∷ buckets) rising keys =
    strictly-append placed_total (placed_of bucket) (flat_map placed_of buckets)
    (placed-rise bucket.name bucket.policies keys.0)
    (flat-rises buckets rising.1 keys.1)
    (All-map (λ (placed : Placed). AllByRecursion (λ (other : Placed). placed_cmp placed other ≡ Less)
    (flat_map placed_of buckets))
    (place bucket.name) bucket.policies (every bucket.policies))
  where
    every : (policies : List Policy)
        → AllByRecursion (λ policy. AllByRecursion
        (λ (other : Placed). placed_cmp (place bucket.name policy) other ≡ Less) (flat_map placed_of buckets))
        policies
    every [] = tt
    every (policy ∷ policies) = (
      All-flat (λ other. placed_cmp (place bucket.name policy) other ≡ Less)
          (λ other. text_cmp bucket.name other.name ≡ Less)
          (λ other before here. ap (λ o. ordering_then o (policy_cmp policy here)) before) buckets rising.0,
      every policies,
    )

pub well_formed : (buckets : List Bucket) → IsKept buckets → IsWellFormed (database_of buckets)
well_formed buckets kept = record {
  sound = kept.sound;
  names_rise = headings-rise buckets kept.names_rise;
  keys_rise = flat-rises buckets kept.names_rise kept.keys_rise;
  walks_end = walks_end (database_of buckets) kept.sound.rooted kept.sound.no_cycle;
}

-- ---- what a search by name found

position-map : {X Y : Type 0} (test : Y → Bool) (f : X → Y) (xs : List X)
    → position test (map f xs) ≡ position (λ x. test (f x)) xs
position-map test f xs i = cond (nat_lt (lens xs i) (lengths xs i)) (Some (lens xs i)) None
  where
    lens : (xs : List _) → prefix_len (λ y. not (test y)) (map f xs) ≡ prefix_len (λ x. not (test (f x))) xs
    lens [] = refl
    lens (x ∷ xs) = ap (λ n. cond (not (test (f x))) (1 + n) 0) (lens xs)

    lengths : (xs : List _) → length (map f xs) ≡ length xs
    lengths [] = refl
    lengths (x ∷ xs) = ap suc (lengths xs)

position-same : {X : Type 0} (test other : X → Bool) → ((x : X) → test x ≡ other x) → (xs : List X)
    → position test xs ≡ position other xs
position-same test other same xs = ap (λ n. cond (nat_lt n (length xs)) (Some n) None) (lens xs)
  where
    lens : (xs : List _) → prefix_len (λ x. not (test x)) xs ≡ prefix_len (λ x. not (other x)) xs
    lens [] = refl
    lens (x ∷ xs) =
        ap (λ b. cond (not b) (1 + prefix_len (λ x. not (test x)) xs) 0) (same x)
        ∙ ap (λ n. cond (not (other x)) (1 + n) 0) (lens xs)

module _ (name : List ℕ) (buckets : List Bucket) where
  by_text : position (λ (bucket : Bucket). same_text bucket.name name) buckets
      ≡ position (λ (bucket : Bucket). is_eq (text_cmp bucket.name name)) buckets
  by_text =
      position-same (λ (bucket : Bucket). same_text bucket.name name) (λ bucket. is_eq (text_cmp bucket.name name))
      (λ bucket. sym (text_cmp-equal bucket.name name)) buckets

  -- where a search found the bucket of this name, or found that there is none
  pub bucket-place : (r : Result ℕ ℕ) → IfOk r (StandsAt (λ (bucket : Bucket). text_cmp bucket.name name) buckets)
      → IfErr r (BelongsAt (λ (bucket : Bucket). text_cmp bucket.name name) buckets)
      → result_ok r ≡ position (λ (bucket : Bucket). same_text bucket.name name) buckets
  bucket-place (Ok at) stands belongs =
      sym (by_text ∙ position-StandsAt (λ (bucket : Bucket). text_cmp bucket.name name) stands)
  bucket-place (Err at) stands belongs =
      sym (by_text ∙ position-BelongsAt (λ (bucket : Bucket). text_cmp bucket.name name) belongs)

  -- the headings have the buckets' names
  pub heading-place : (r : Result ℕ ℕ) → IfOk r (StandsAt (λ (bucket : Bucket). text_cmp bucket.name name) buckets)
      → IfErr r (BelongsAt (λ (bucket : Bucket). text_cmp bucket.name name) buckets)
      → result_ok r ≡ position (λ (heading : Heading). same_text heading.name name) (map heading_of buckets)
  heading-place r stands belongs =
      bucket-place r stands belongs
      ∙ sym (position-map (λ (heading : Heading). same_text heading.name name) heading_of buckets)

-- ---- whether a bucket is there

pub any-front : {X : Type 0} (test : X → Bool) (xs : List X) (x : X) (ys : List X) → test x ≡ true
    → list_any test (xs ++ x ∷ ys) ≡ true
any-front test [] x ys h = or_left _ _ h
any-front test (y ∷ xs) x ys h = or_right _ _ (any-front test xs x ys h)

pub any-none : {X : Type 0} (test : X → Bool) (xs : List X) → AllByRecursion (λ x. test x ≡ false) xs
    → list_any test xs ≡ false
any-none test [] all = refl
any-none test (x ∷ xs) all = ap (λ b. b || list_any test xs) all.0 ∙ any-none test xs all.1

pub any-map : {X Y : Type 0} (test : Y → Bool) (f : X → Y) (xs : List X)
    → list_any test (map f xs) ≡ list_any (λ x. test (f x)) xs
any-map test f [] = refl
any-map test f (x ∷ xs) = ap (λ b. test (f x) || b) (any-map test f xs)

module _ (name : List ℕ) where
  abbrev Answer : Bucket → Ordering
  Answer bucket = text_cmp bucket.name name

  apart-less : (bucket : Bucket) → text_cmp bucket.name name ≡ Less → same_text bucket.name name ≡ false
  apart-less bucket h = sym (text_cmp-equal bucket.name name) ∙ ap is_eq h

  apart-greater : (bucket : Bucket) → text_cmp bucket.name name ≡ Greater → same_text bucket.name name ≡ false
  apart-greater bucket h = sym (text_cmp-equal bucket.name name) ∙ ap is_eq h

  pub tied-same : (bucket : Bucket) → text_cmp bucket.name name ≡ Equal → same_text bucket.name name ≡ true
  tied-same bucket h = sym (text_cmp-equal bucket.name name) ∙ ap is_eq h

  pub others-apart : (xs : List Bucket) → AllByRecursion (λ bucket. text_cmp bucket.name name ≡ Less) xs
      → AllByRecursion (λ (bucket : Bucket). same_text bucket.name name ≡ false) xs
  others-apart xs all =
      All-weaker (λ (bucket : Bucket). text_cmp bucket.name name ≡ Less) (λ bucket. same_text bucket.name name ≡ false)
      apart-less xs all

  pub others-apart' : (xs : List Bucket) → AllByRecursion (λ bucket. text_cmp bucket.name name ≡ Greater) xs
      → AllByRecursion (λ (bucket : Bucket). same_text bucket.name name ≡ false) xs
  others-apart' xs all =
      All-weaker (λ (bucket : Bucket). text_cmp bucket.name name ≡ Greater)
      (λ bucket. same_text bucket.name name ≡ false) apart-greater xs all

  pub has-found : (buckets : List Bucket) (at : ℕ) → StandsAt (λ bucket. text_cmp bucket.name name) buckets at
      → has_bucket name (database_of buckets) ≡ true
  has-found buckets at stands =
      any-map (λ (heading : Heading). same_text heading.name name) heading_of buckets
      ∙ ap (list_any (λ (bucket : Bucket). same_text bucket.name name)) stands.parts
      ∙ any-front (λ (bucket : Bucket). same_text bucket.name name) stands.front stands.element stands.back
      (tied-same stands.element stands.ties)

  pub has-absent : (buckets : List Bucket) (at : ℕ) → BelongsAt (λ bucket. text_cmp bucket.name name) buckets at
      → has_bucket name (database_of buckets) ≡ false
  has-absent buckets at belongs =
      any-map (λ (heading : Heading). same_text heading.name name) heading_of buckets
      ∙ ap (list_any (λ (bucket : Bucket). same_text bucket.name name)) belongs.parts
      ∙ any-none (λ (bucket : Bucket). same_text bucket.name name) (belongs.front ++ belongs.back)
      (All-append (λ (bucket : Bucket). same_text bucket.name name ≡ false) belongs.front belongs.back
      (others-apart belongs.front belongs.before) (others-apart' belongs.back belongs.behind))

  -- the rule on one named bucket
  pub named-found : (database : Database) → has_bucket name database ≡ true → no_bucket (name ∷ []) database ≡ None
  named-found database has = ap (λ b. option_map (λ name. NoBucket name) (cond (not b) (Some name) None)) has

  pub named-absent : (database : Database) → has_bucket name database ≡ false
      → no_bucket (name ∷ []) database ≡ Some (NoBucket name)
  named-absent database has = ap (λ b. option_map (λ name. NoBucket name) (cond (not b) (Some name) None)) has

-- ---- the policies of one bucket

-- where a test fails in each bucket, it fails
pub flat-none : (test : Placed → Bool) (buckets : List Bucket)
    → AllByRecursion (λ (bucket : Bucket). (policy : Policy)
    → test (record { bucket = bucket.name; policy = policy }) ≡ false) buckets
    → filter test (flat_map placed_of buckets) ≡ []
flat-none test buckets all =
    filter-none test (flat_map placed_of buckets)
    (All-flat (λ placed. test placed ≡ false) (λ bucket. (policy : Policy) → test (place bucket.name policy) ≡ false)
    (λ bucket h. h) buckets all)

unplaced : (name : List ℕ) (policies : List Policy)
    → map (λ (placed : Placed). placed.policy) (map (place name) policies) ≡ policies
unplaced name [] = refl
unplaced name (policy ∷ policies) = ap (λ rest. policy ∷ rest) (unplaced name policies)

pub listed-found : (name : List ℕ) (admitted : Filter) (buckets : List Bucket) (at : ℕ)
    (stands : StandsAt (λ (bucket : Bucket). text_cmp bucket.name name) buckets at)
    → listed name admitted (database_of buckets) ≡ filter (λ policy. filter_admits admitted policy.key)
    stands.element.policies
listed-found name admitted buckets at stands =
    let front = stands.front in
    let bucket = stands.element in
    let back = stands.back in
    let test = is_admitted name admitted in
    let apart : (other : Bucket) → same_text other.name name ≡ false → (policy : Policy)
    → test (place other.name policy) ≡ false =
    λ other no policy. ap (λ b. b && filter_admits admitted policy.key) no in
    let none_in_front : filter test (flat_map placed_of front) ≡ [] =
    flat-none test front
    (All-weaker (λ (other : Bucket). same_text other.name name ≡ false)
    (λ other. (policy : Policy) → test (place other.name policy) ≡ false) apart front
    (others-apart name front stands.before)) in
    let none_behind : filter test (flat_map placed_of back) ≡ [] =
    flat-none test back (All-weaker (λ (other : Bucket). same_text other.name name ≡ false)
    (λ other. (policy : Policy) → test (place other.name policy) ≡ false) apart back
    (others-apart' name back stands.behind)) in
    let same : (λ (policy : Policy). test (place bucket.name policy)) ≡ (λ policy. filter_admits admitted policy.key) =
    ap (λ b policy. b && filter_admits admitted policy.key) (tied-same name bucket stands.ties) in
    let own : filter test (placed_of bucket) ≡ map (place bucket.name)
    (filter (λ policy. filter_admits admitted policy.key) bucket.policies) =
    filter-map test (place bucket.name) bucket.policies
    ∙ ap (λ p. map (place bucket.name) (filter p bucket.policies)) same in
    let all : filter test (flat_map placed_of buckets) ≡ map (place bucket.name)
    (filter (λ policy. filter_admits admitted policy.key) bucket.policies) =
    ap (λ list. filter test (flat_map placed_of list)) stands.parts
    ∙ ap (filter test) (flat_map-append placed_of front (bucket ∷ back))
    ∙ filter-append test (flat_map placed_of front) (placed_of bucket ++ flat_map placed_of back)
    ∙ ap (λ list. list ++ filter test (placed_of bucket ++ flat_map placed_of back)) none_in_front
    ∙ filter-append test (placed_of bucket) (flat_map placed_of back)
    ∙ ap (λ list. filter test (placed_of bucket) ++ list) none_behind ∙ append-nil (filter test (placed_of bucket))
    ∙ own in
    ap (map (λ (placed : Placed). placed.policy)) all
    ∙ unplaced bucket.name (filter (λ policy. filter_admits admitted policy.key) bucket.policies)

-- the element at the place that the search gave
pub found-is : {X : Type 0} {answer : X → Ordering} (list : List X) (at : ℕ) (stands : StandsAt answer list at) (x : X)
    → x ≡ get_or list at x → x ≡ stands.element
found-is list at stands x is =
    is ∙ ap (λ xs. get_or xs at x) stands.parts
    ∙ get_or_at stands.front stands.element stands.back x at stands.length_front

-- what a list gives, at the bucket that was read there
pub listed-read : (name : List ℕ) (admitted : Filter) (database : Database) (buckets : List Bucket)
    → database_of buckets ≡ database
    → (at : ℕ) → StandsAt (λ (bucket : Bucket). text_cmp bucket.name name) buckets at
    → (bucket : Bucket) → bucket ≡ get_or buckets at bucket
    → filter (λ policy. filter_admits admitted policy.key) bucket.policies ≡ listed name admitted database
listed-read name admitted database buckets view at stands bucket is =
    ap (λ (own : Bucket). filter (λ policy. filter_admits admitted policy.key) own.policies)
    (found-is buckets at stands bucket is)
    ∙ sym (listed-found name admitted buckets at stands) ∙ ap (listed name admitted) view

-- a request that names one bucket and leads to a sound database
pub fault-found : (name : List ℕ) (database next : Database) → has_bucket name database ≡ true → IsSound next
    → fault database (record { named = name ∷ []; removed = []; headed = []; next = next }) ≡ None
fault-found name database next has sound =
    ap (λ rule. first_of (rule ∷ root_bucket [] ∷ bad_kind [] ∷ limit next ∷ cycle next ∷ []))
    (named-found name database has)
    ∙ ap (λ rule. first_of (rule ∷ cycle next ∷ [])) (limit-sound next sound)
    ∙ ap (λ rule. first_of (rule ∷ [])) (cycle-sound next sound)

-- what the refusal of an absent bucket says
pub refuses-absent : (name : List ℕ) (removed : List (List ℕ)) (database next : Database) → root_bucket removed ≡ None
    → has_bucket name database ≡ false → (refusal : StoreRefusal) → NamesAbsent name refusal
    → Refuses database (record { named = name ∷ []; removed = removed; headed = []; next = next }) refusal
refuses-absent name removed database next form absent (NoBucket other) named =
    ap (λ rule. first_of (rule ∷ root_bucket removed ∷ bad_kind [] ∷ limit next ∷ cycle next ∷ []))
    (named-absent name database absent) ∙ ap Some (sym named)
refuses-absent name removed database next form absent RootBucket named = cc
refuses-absent name removed database next form absent (BadKind kind) named = cc
refuses-absent name removed database next form absent (Limit counted most) named = cc
refuses-absent name removed database next form absent (Cycle other) named = cc
refuses-absent name removed database next form absent (Memory error) named = (form, refl)
