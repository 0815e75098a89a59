-- What the files of the buckets give: a database that keeps the rules.
use Rattle.std.proofs.Common.{◌≡◌, ℕ, zero, suc, ◌+◌, ◌≤◌, Bool, true, false, not, cond, ◌&&◌, ◌||◌, List, [], ◌∷◌}
use Rattle.std.proofs.Common.{◌++◌, length, map, find, None, Result, Ok, Err, refl, sym, ap, subst, ◌∙◌, arith}
use Rattle.std.proofs.Common.{append_assoc, append-nil}
use Rattle.std.specs.declared.cmp.Ordering.TheVariants.{Less}
use Rattle.std.specs.List.{AllByRecursion, list_any, flat_map, sum_by, filter}
use Rattle.std.specs.List.Sorted.{IsStrictlySortedBy}
use Rattle.std.specs.Ordering.{is_eq}
use Rattle.std.proofs.lemmas.Bool.{true≢false}
use Rattle.std.proofs.lemmas.List.Elements.{filter-append}
use Rattle.std.proofs.lemmas.List.Sums.{sum_by-append}
use Rattle.cynara_keys.specs.Text.{same_text, text_cmp}
use Rattle.cynara_keys.specs.declared.keys.Policy.{Policy}
use Rattle.cynara_keys.proofs.Order.{same_text-≡, ≡-same_text, text_cmp-equal}
use Rattle.app_registry.proofs.Filters.{option_map-none, none_does}
use Rattle.bucket_store.specs.Bucket.{Bucket}
use Rattle.bucket_store.specs.Database.{Database, Heading, Placed, root, has_bucket, heading_of, placed_of, database_of}
use Rattle.bucket_store.specs.Order.{heading_cmp, bucket_cmp, policy_cmp}
use Rattle.bucket_store.specs.Refusal.{most_buckets, most_policies, cycle, is_bad}
use Rattle.bucket_store.specs.Walk.{points, target, reaches, is_on_cycle}
use Rattle.bucket_store.specs.WellFormed.{IsRooted, IsSound, IsKept}
use Rattle.bucket_store.specs.declared.refusals.StoreRefusal.TheVariants.{Cycle}
use Rattle.bucket_store.proofs.Lists.{All-weaker, All-both, All-map, All-unmap, filter-all, filter-none}
use Rattle.bucket_store.proofs.Sound.{any-none}
use Rattle.desk_ports.specs.declared.file_sets.SetFile.{SetFile}
use Rattle.set_text.specs.Buckets.{bucket_text, has_target, policies_of}
use Rattle.set_text.specs.Fault.{Fault, with_value, in_file, bytes_in}
use Rattle.set_text.specs.FileNames.{bucket_file}
use Rattle.set_text.specs.Reading.{policy_count, with_policies, buckets_behind}
use Rattle.set_text.specs.IsSpelt.{IsPolicy}
use Rattle.set_text.proofs.round.HeadingLines.{AreHeadings}
use Rattle.set_text.proofs.round.Lists.{flat-all, length-flat, each-there, some-with}
use Rattle.set_text.proofs.round.PolicyLines.{policies-spelled}

-- ---- the buckets, read one by one

-- the file of a bucket is its policies, which keep the rules
pub record IsBucketOf (set : List SetFile) (headings : List Heading) (bucket : Bucket) : Type 0 where
  pub same : bytes_in set (bucket_file bucket.name) ≡ bucket_text bucket.policies
  pub all : AllByRecursion IsPolicy bucket.policies
  pub rise : IsStrictlySortedBy policy_cmp bucket.policies
  pub targets : AllByRecursion (λ policy. has_target headings policy ≡ true) bucket.policies

module _ (set : List SetFile) (headings : List Heading) where
  pub record AreBucketsBehind (before : List Bucket) (later : List Heading) (buckets : List Bucket) : Type 0 where
    pub more : List Bucket
    pub behind : buckets ≡ before ++ more
    pub headed : map heading_of more ≡ later
    pub all : AllByRecursion (IsBucketOf set headings) more
    pub few : policy_count buckets ≤ most_policies

  abbrev read_bucket : List Bucket → Heading → Result (List Policy) ℕ
  read_bucket before heading = policies_of headings (policy_count before) (bytes_in set (bucket_file heading.name))

  abbrev go_on : List Bucket → Heading → List Heading → List Policy → Result (List Bucket) Fault
  go_on before heading later policies = buckets_behind set headings
      (before ++ with_policies heading policies ∷ []) later

  pub buckets-spelled : (before : List Bucket) (later : List Heading) (buckets : List Bucket)
      → policy_count before ≤ most_policies
      → buckets_behind set headings before later ≡ Ok buckets → AreBucketsBehind before later buckets
  buckets-spelled before [] buckets few h =
      let same : before ≡ buckets = cc in
      record {
        more = [];
        behind = sym same ∙ sym (append-nil before);
        headed = refl;
        all = tt;
        few = subst (λ (list : List Bucket). policy_count list ≤ most_policies) same few;
      }
  buckets-spelled before (heading ∷ later) buckets few h =
      by (read_bucket before heading) refl h
      (λ policies. buckets-spelled (before ++ with_policies heading policies ∷ []) later buckets)
    where
      by : (found : Result (List Policy) ℕ) → read_bucket before heading ≡ found
          → with_value (in_file (bucket_file heading.name) found) (go_on before heading later) ≡ Ok buckets
          → ((policies : List Policy) → policy_count (before ++ with_policies heading policies ∷ []) ≤ most_policies
          → go_on before heading later policies ≡ Ok buckets
          → AreBucketsBehind (before ++ with_policies heading policies ∷ []) later buckets)
          → AreBucketsBehind before (heading ∷ later) buckets
      by (Err line) is h rest = cc
      by (Ok policies) is h rest =
          let bucket = with_policies heading policies in
          let told = policies-spelled headings (policy_count before) few
          (bytes_in set (bucket_file heading.name)) policies is in
          let count : policy_count (before ++ bucket ∷ []) ≡ policy_count before + (0 + length policies) =
          sum_by-append (λ (bucket : Bucket). length bucket.policies) before (bucket ∷ []) in
          let still = rest policies (omega (arith, count, told.1.few)) h in
          record {
            more = bucket ∷ still.more;
            behind = still.behind ∙ append_assoc before (bucket ∷ []) still.more;
            headed = ap (λ headings. heading ∷ headings) still.headed;
            all = (
              record { same = told.0; all = told.1.all; rise = told.1.rise; targets = told.1.targets },
              still.all,
            );
            few = still.few;
          }

-- ---- what they are together

pub record AreBuckets (set : List SetFile) (headings : List Heading) (buckets : List Bucket) : Type 0 where
  pub headed : map heading_of buckets ≡ headings
  pub all : AllByRecursion (IsBucketOf set headings) buckets
  pub few : policy_count buckets ≤ most_policies

pub buckets-are : (set : List SetFile) (headings : List Heading) (buckets : List Bucket)
    → buckets_behind set headings [] headings ≡ Ok buckets → AreBuckets set headings buckets
buckets-are set headings buckets h =
    let told = buckets-spelled set headings [] headings buckets (omega arith) h in
    record {
      headed = ap (map heading_of) told.behind ∙ told.headed;
      all = subst (AllByRecursion (IsBucketOf set headings)) (sym told.behind) told.all;
      few = told.few;
    }

names-rise : (buckets : List Bucket) → IsStrictlySortedBy heading_cmp (map heading_of buckets)
    → IsStrictlySortedBy bucket_cmp buckets
unfolding IsStrictlySortedBy
names-rise [] rise = tt
names-rise (bucket ∷ buckets) rise = (
  All-unmap (λ (other : Heading). heading_cmp (heading_of bucket) other ≡ Less) heading_of buckets rise.0,
  names-rise buckets rise.1,
)

-- the policies of a bucket are those of the database in it
abbrev pub in_bucket : List ℕ → Placed → Bool
in_bucket name placed = same_text placed.bucket name

abbrev pub place : List ℕ → Policy → Placed
place name policy = record { bucket = name; policy = policy }

own-placed : (name other : List ℕ) (same : Bool) → same_text other name ≡ same → (policies : List Policy)
    → filter (in_bucket name) (map (place other) policies)
    ≡ cond same (map (place other) policies) []
own-placed name other true is policies =
    filter-all (in_bucket name) (map (place other) policies)
    (All-map (λ (placed : Placed). same_text placed.bucket name ≡ true) (place other)
    policies (every policies))
  where
    every : (policies : List Policy) → AllByRecursion (λ (policy : Policy). same_text other name ≡ true) policies
    every [] = tt
    every (policy ∷ policies) = (is, every policies)
own-placed name other false is policies =
    filter-none (in_bucket name) (map (place other) policies)
    (All-map (λ (placed : Placed). same_text placed.bucket name ≡ false) (place other)
    policies (every policies))
  where
    every : (policies : List Policy) → AllByRecursion (λ (policy : Policy). same_text other name ≡ false) policies
    every [] = tt
    every (policy ∷ policies) = (is, every policies)

pub apart-names : (a b : List ℕ) → text_cmp a b ≡ Less → (same_text a b ≡ false) × (same_text b a ≡ false)
apart-names a b less =
    let first : same_text a b ≡ false = sym (text_cmp-equal a b) ∙ ap is_eq less in
    (first, by (same_text b a) refl first)
  where
    by : (same : Bool) → same_text b a ≡ same → same_text a b ≡ false → same ≡ false
    by true is first = absurd (true≢false (sym (≡-same_text a b (sym (same_text-≡ b a is))) ∙ first))
    by false is first = refl

none-own : (name : List ℕ) (buckets : List Bucket)
    → AllByRecursion (λ (bucket : Bucket). text_cmp name bucket.name ≡ Less) buckets
    → filter (in_bucket name) (flat_map placed_of buckets) ≡ []
none-own name [] all = refl
none-own name (bucket ∷ buckets) all =
    filter-append (in_bucket name) (placed_of bucket) (flat_map placed_of buckets)
    ∙ (λ i. own-placed name bucket.name false (apart-names name bucket.name all.0).1 bucket.policies i
    ++ none-own name buckets all.1 i)

-- in the database of buckets that rise, each has its own policies
pub own-policies : (buckets : List Bucket) → IsStrictlySortedBy bucket_cmp buckets
    → AllByRecursion (λ (bucket : Bucket). filter (in_bucket bucket.name)
    (flat_map placed_of buckets) ≡ placed_of bucket) buckets
unfolding IsStrictlySortedBy
own-policies [] rise = tt
own-policies (bucket ∷ buckets) rise = (
  filter-append (in_bucket bucket.name) (placed_of bucket) (flat_map placed_of buckets)
      ∙ (λ i. own-placed bucket.name bucket.name true (≡-same_text bucket.name bucket.name refl) bucket.policies i
      ++ none-own bucket.name buckets rise.0 i)
      ∙ append-nil (placed_of bucket),
  each buckets rise.0 (own-policies buckets rise.1),
)
  where
    each : (others : List Bucket) → AllByRecursion (λ (other : Bucket). text_cmp bucket.name other.name ≡ Less) others
        → AllByRecursion (λ (other : Bucket). filter (in_bucket other.name)
        (flat_map placed_of buckets) ≡ placed_of other) others
        → AllByRecursion (λ (other : Bucket). filter (in_bucket other.name)
        (placed_of bucket ++ flat_map placed_of buckets)
        ≡ placed_of other) others
    each [] above own = tt
    each (other ∷ others) above own = (
      filter-append (in_bucket other.name) (placed_of bucket) (flat_map placed_of buckets)
          ∙ (λ i. own-placed other.name bucket.name false
          (apart-names bucket.name other.name above.0).0 bucket.policies i ++ own.0 i),
      each others above.1 own.1,
    )

-- ---- no bucket reaches itself

no-cycle-when : (database : Database) → cycle database ≡ None
    → AllByRecursion (λ (heading : Heading). is_on_cycle database heading.name ≡ false) database.buckets
no-cycle-when database none =
    All-unmap (λ name. is_on_cycle database name ≡ false) (λ (heading : Heading). heading.name) database.buckets
    (none_does (is_on_cycle database) (map (λ (heading : Heading). heading.name) database.buckets)
    (option_map-none (λ name. Cycle name)
    (find (is_on_cycle database) (map (λ (heading : Heading). heading.name) database.buckets)) none))

-- no policy is in a bucket that is not there
stranger-own : (database : Database) (name : List ℕ) → has_bucket name database ≡ false → (placed : Placed)
    → IsRooted database placed → same_text placed.bucket name ≡ false
stranger-own database name absent placed rooted = by (same_text placed.bucket name) refl
  where
    by : (same : Bool) → same_text placed.bucket name ≡ same → same ≡ false
    by true is =
        absurd (true≢false (sym rooted.own ∙ ap (λ name. has_bucket name database)
        (same_text-≡ placed.bucket name is) ∙ absent))
    by false is = refl

stranger-reaches : (policies : List Placed) (most : ℕ) (from to : List ℕ)
    → AllByRecursion (λ (placed : Placed). same_text placed.bucket from ≡ false) policies
    → reaches policies most from to ≡ false
unfolding reaches
stranger-reaches policies zero from to all = refl
stranger-reaches policies (suc most) from to all =
    any-none (λ (step : Placed).
    same_text step.bucket from
    && (points step.policy
    && (same_text (target step.policy) to || reaches policies most (target step.policy) to))) policies
    (All-weaker (λ (placed : Placed). same_text placed.bucket from ≡ false)
    (λ (step : Placed). (same_text step.bucket from
    && (points step.policy
    && (same_text (target step.policy) to || reaches policies most (target step.policy) to))) ≡ false)
    (λ step other. ap (λ b. b && (points step.policy
    && (same_text (target step.policy) to || reaches policies most (target step.policy) to))) other) policies all)

pub no-cycle : (database : Database) → AllByRecursion (IsRooted database) database.policies → cycle database ≡ None
    → (name : List ℕ)
    → is_on_cycle database name ≡ false
no-cycle database rooted none name = by (has_bucket name database) refl
  where
    by : (has : Bool) → has_bucket name database ≡ has → is_on_cycle database name ≡ false
    by true is =
        let found = some-with (λ (heading : Heading). same_text heading.name name)
        (λ (heading : Heading). is_on_cycle database heading.name ≡ false) database.buckets is
        (no-cycle-when database none) in
        ap (is_on_cycle database) (sym (same_text-≡ found.0.name name found.1)) ∙ found.2
    by false is =
        stranger-reaches database.policies (length database.buckets) name name
        (All-weaker (IsRooted database) (λ (placed : Placed). same_text placed.bucket name ≡ false)
        (stranger-own database name is) database.policies rooted)

-- ---- the database

same-length : {X Y : Type 0} (f : X → Y) (xs : List X) → length (map f xs) ≡ length xs
same-length f [] = refl
same-length f (x ∷ xs) = ap suc (same-length f xs)

-- as many policies as the buckets have together
pub length-policies : (buckets : List Bucket) → length (flat_map placed_of buckets) ≡ policy_count buckets
length-policies buckets =
    length-flat placed_of buckets
    ∙ ap (λ (count : Bucket → ℕ). sum_by count buckets)
    (λ i (bucket : Bucket). same-length (place bucket.name) bucket.policies i)

implied : (pointed there : Bool) → (not pointed || there) ≡ true → pointed ≡ true → there ≡ true
implied true there h is = h
implied false there h is = absurd (true≢false (sym is))

module _ (set : List SetFile) (text : List ℕ) (headings : List Heading) (buckets : List Bucket)
    (heads : AreHeadings text headings)
    (are : AreBuckets set headings buckets) where
  abbrev database : Database
  database = database_of buckets

  pub rise : IsStrictlySortedBy bucket_cmp buckets
  rise = names-rise buckets (subst (IsStrictlySortedBy heading_cmp) (sym are.headed) heads.rise)

  own-there : AllByRecursion (λ (bucket : Bucket). has_bucket bucket.name database ≡ true) buckets
  own-there =
      All-unmap (λ (heading : Heading). has_bucket heading.name database ≡ true) heading_of buckets
      (each-there (λ (heading other : Heading). same_text other.name heading.name)
      (λ heading. ≡-same_text heading.name heading.name refl) (map heading_of buckets))

  rooted-in : (bucket : Bucket) → has_bucket bucket.name database ≡ true → (policies : List Policy)
      → AllByRecursion (λ policy. has_target headings policy ≡ true) policies
      → AllByRecursion (λ (policy : Policy). IsRooted database
      (record { bucket = bucket.name; policy = policy })) policies
  rooted-in bucket own [] all = tt
  rooted-in bucket own (policy ∷ policies) all = (
    record {
      own = own;
      target = λ pointed.
          ap (list_any (λ (heading : Heading). same_text heading.name (target policy))) are.headed
          ∙ implied (points policy)
          (list_any (λ (heading : Heading). same_text heading.name (target policy)) headings) all.0 pointed;
    },
    rooted-in bucket own policies all.1,
  )

  pub rooted : AllByRecursion (IsRooted database) database.policies
  rooted =
      flat-all (IsRooted database) placed_of buckets
      (All-weaker (λ (bucket : Bucket). (has_bucket bucket.name database ≡ true) × IsBucketOf set headings bucket)
      (λ bucket. AllByRecursion (IsRooted database) (placed_of bucket))
      (λ bucket both.
      All-map (IsRooted database) (place bucket.name) bucket.policies
      (rooted-in bucket both.0 bucket.policies both.1.targets)) buckets
      (All-both (λ (bucket : Bucket). has_bucket bucket.name database ≡ true)
      (IsBucketOf set headings) buckets own-there are.all))

  pub sound : cycle database ≡ None → IsSound database
  sound none = record {
    root = ap (list_any (λ (heading : Heading). same_text heading.name root)) are.headed ∙ heads.root;
    fallbacks = subst (AllByRecursion (λ (heading : Heading). is_bad heading ≡ false)) (sym are.headed) heads.fallbacks;
    rooted = rooted;
    buckets = subst (λ (list : List Heading). length list ≤ most_buckets) (sym are.headed) heads.few;
    policies = (let count = length-policies buckets in omega (arith, count, are.few));
    no_cycle = no-cycle database rooted none;
  }

  pub kept : cycle database ≡ None → IsKept buckets
  kept none = record {
    names_rise = rise;
    keys_rise = All-weaker (IsBucketOf set headings)
        (λ (bucket : Bucket). IsStrictlySortedBy policy_cmp bucket.policies)
        (λ bucket is. is.rise) buckets are.all;
    sound = sound none;
  }
