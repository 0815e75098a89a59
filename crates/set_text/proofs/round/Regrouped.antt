-- The policies of a database, bucket by bucket, are all of its policies.
use Rattle.std.proofs.Common.{◌≡◌, ℕ, Bool, true, false, cond, ◌||◌, List, [], ◌∷◌, ◌++◌, map, refl, sym, ap, ◌∙◌}
use Rattle.std.specs.declared.cmp.Ordering.TheVariants.{Less, Equal, Greater}
use Rattle.std.specs.List.{AllByRecursion, list_any, filter, flat_map}
use Rattle.std.specs.List.Sorted.{IsStrictlySortedBy}
use Rattle.std.specs.Ordering.{is_lt, is_gt, ordering_then, ordering_reverse}
use Rattle.std.proofs.lemmas.Bool.{true≢false}
use Rattle.std.proofs.lemmas.Cmp.{tied_itself}
use Rattle.std.proofs.lemmas.List.Kept.{IsStrictlySortedBy-filter}
use Rattle.cynara_keys.specs.Text.{same_text, text_cmp}
use Rattle.cynara_keys.specs.declared.keys.Policy.{Policy}
use Rattle.cynara_keys.proofs.Order.{same_text-≡, text_total}
use Rattle.bucket_store.specs.Bucket.{Bucket}
use Rattle.bucket_store.specs.Database.{Database, Heading, Placed, has_bucket, heading_of, placed_of, database_of}
use Rattle.bucket_store.specs.Order.{heading_cmp, placed_cmp, policy_cmp}
use Rattle.bucket_store.proofs.Lists.{All-weaker, All-passing, filter-none}
use Rattle.desk_state.proofs.Filters.{filter-within}
use Rattle.desk_state.proofs.Owning.{own, with_own-same}
use Rattle.set_text.specs.Reading.{with_policies}
use Rattle.set_text.proofs.round.BucketFiles.{place}

-- the buckets with the policies that they have in a list
abbrev pub filled : List Placed → Heading → Bucket
filled policies heading = with_policies heading (map (λ (placed : Placed). placed.policy) (own heading.name policies))

-- ---- one bucket

replaced : (name : List ℕ) (policies : List Placed)
    → AllByRecursion (λ (placed : Placed). same_text placed.bucket name ≡ true) policies
    → map (place name) (map (λ (placed : Placed). placed.policy) policies) ≡ policies
replaced name [] all = refl
replaced name (placed ∷ policies) all =
    let bucket = same_text-≡ placed.bucket name all.0 in
    let rest = replaced name policies all.1 in
    λ i. record { bucket = sym bucket i; policy = placed.policy } ∷ rest i

own-all : (name : List ℕ) (policies : List Placed)
    → AllByRecursion (λ (placed : Placed). same_text placed.bucket name ≡ true) (own name policies)
own-all name policies =
    All-passing (λ (placed : Placed). same_text placed.bucket name ≡ true)
    (λ (placed : Placed). same_text placed.bucket name)
    (λ placed is. is) policies

pub own-again : (policies : List Placed) (heading : Heading)
    → placed_of (filled policies heading) ≡ own heading.name policies
own-again policies heading = replaced heading.name (own heading.name policies) (own-all heading.name policies)

-- policies that rise in one bucket rise by their keys
keys-rise : (name : List ℕ) (policies : List Placed) → IsStrictlySortedBy placed_cmp policies
    → AllByRecursion (λ (placed : Placed). same_text placed.bucket name ≡ true) policies
    → IsStrictlySortedBy policy_cmp (map (λ (placed : Placed). placed.policy) policies)
unfolding IsStrictlySortedBy
keys-rise name [] rise all = tt
keys-rise name (first ∷ policies) rise all = (each policies rise.0 all.1, keys-rise name policies rise.1 all.1)
  where
    each : (others : List Placed) → AllByRecursion (λ (other : Placed). placed_cmp first other ≡ Less) others
        → AllByRecursion (λ (placed : Placed). same_text placed.bucket name ≡ true) others
        → AllByRecursion (λ (policy : Policy). policy_cmp first.policy policy ≡ Less)
        (map (λ (placed : Placed). placed.policy) others)
    each [] above own = tt
    each (other ∷ others) above own =
        let tied : text_cmp first.bucket other.bucket ≡ Equal =
        ap (λ bucket. text_cmp bucket other.bucket)
        (same_text-≡ first.bucket name all.0 ∙ sym (same_text-≡ other.bucket name own.0))
        ∙ tied_itself text_total other.bucket in (
          ap (λ o. ordering_then o (policy_cmp first.policy other.policy))
              (sym tied) ∙ above.0,
          each others above.1 own.1,
        )

pub own-rises : (name : List ℕ) (policies : List Placed) → IsStrictlySortedBy placed_cmp policies
    → IsStrictlySortedBy policy_cmp (map (λ (placed : Placed). placed.policy) (own name policies))
own-rises name policies rise =
    keys-rise name (own name policies)
    (IsStrictlySortedBy-filter placed_cmp (λ (placed : Placed). same_text placed.bucket name) policies rise)
    (own-all name policies)

-- ---- all buckets

-- a policy is in one of these buckets
abbrev IsIn : List Heading → Placed → Type 0
IsIn headings placed = list_any (λ (heading : Heading). same_text heading.name placed.bucket) headings ≡ true

none-below : (heading : Heading) (headings : List Heading) → IsStrictlySortedBy heading_cmp (heading ∷ headings)
    → (placed : Placed)
    → IsIn (heading ∷ headings) placed → is_lt (text_cmp placed.bucket heading.name) ≡ false
unfolding IsStrictlySortedBy
none-below heading headings rise placed is =
    by (same_text heading.name placed.bucket) refl is
  where
    past : (others : List Heading)
        → AllByRecursion (λ (other : Heading). text_cmp heading.name other.name ≡ Less) others
        → list_any (λ (other : Heading). same_text other.name placed.bucket) others ≡ true
        → text_cmp heading.name placed.bucket ≡ Less
    past [] above there = absurd (true≢false (sym there))
    past (other ∷ others) above there = at (same_text other.name placed.bucket) refl there (past others above.1)
      where
        at : (same : Bool) → same_text other.name placed.bucket ≡ same
            → (same || list_any (λ (other : Heading). same_text other.name placed.bucket) others) ≡ true
            → (list_any (λ (other : Heading). same_text other.name placed.bucket) others ≡ true
            → text_cmp heading.name placed.bucket ≡ Less)
            → text_cmp heading.name placed.bucket ≡ Less
        at true is there rest = ap (text_cmp heading.name) (sym (same_text-≡ other.name placed.bucket is)) ∙ above.0
        at false is there rest = rest there

    by : (same : Bool) → same_text heading.name placed.bucket ≡ same
        → (same || list_any (λ (other : Heading). same_text other.name placed.bucket) headings) ≡ true
        → is_lt (text_cmp placed.bucket heading.name) ≡ false
    by true is there =
        ap is_lt (ap (λ bucket. text_cmp bucket heading.name) (sym (same_text-≡ heading.name placed.bucket is))
        ∙ tied_itself text_total heading.name)
    by false is there =
        let less = past headings rise.0 there in
        ap is_lt (text_total.antisymm placed.bucket heading.name ∙ ap ordering_reverse less)

abbrev behind : Heading → List Placed → List Placed
behind heading policies = filter (λ (placed : Placed). is_gt (text_cmp placed.bucket heading.name)) policies

-- the policies behind the first bucket are in the others
still-in : (heading : Heading) (headings : List Heading) (policies : List Placed)
    → AllByRecursion (IsIn (heading ∷ headings)) policies
    → AllByRecursion (IsIn headings)
    (filter (λ (placed : Placed). is_gt (text_cmp placed.bucket heading.name)) policies)
still-in heading headings [] all = tt
still-in heading headings (placed ∷ policies) all =
    by (is_gt (text_cmp placed.bucket heading.name)) refl (still-in heading headings policies all.1)
  where
    not-first : is_gt (text_cmp placed.bucket heading.name) ≡ true → same_text heading.name placed.bucket ≡ false
    not-first above = at (same_text heading.name placed.bucket) refl
      where
        at : (same : Bool) → same_text heading.name placed.bucket ≡ same → same ≡ false
        at true is =
            let tied : text_cmp placed.bucket heading.name ≡ Equal =
            ap (λ bucket. text_cmp bucket heading.name) (sym (same_text-≡ heading.name placed.bucket is))
            ∙ tied_itself text_total heading.name in
            absurd (true≢false (sym above ∙ ap is_gt tied))
        at false is = refl

    by : (above : Bool) → is_gt (text_cmp placed.bucket heading.name) ≡ above
        → AllByRecursion (IsIn headings) (behind heading policies)
        → AllByRecursion (IsIn headings) (cond above (placed ∷ behind heading policies) (behind heading policies))
    by true is rest = (
      ap (λ b. b || list_any (λ (other : Heading). same_text other.name placed.bucket) headings) (sym (not-first is))
          ∙ all.0,
      rest,
    )
    by false is rest = rest

own-behind : (heading : Heading) (headings : List Heading) (policies : List Placed)
    → AllByRecursion (λ (other : Heading). text_cmp heading.name other.name ≡ Less) headings
    → flat_map (λ (other : Heading). own other.name
    (filter (λ (placed : Placed). is_gt (text_cmp placed.bucket heading.name)) policies))
    headings
    ≡ flat_map (λ (other : Heading). own other.name policies) headings
own-behind heading [] policies above = refl
own-behind heading (other ∷ headings) policies above =
    let here = filter-within (λ (placed : Placed). same_text placed.bucket other.name)
    (λ (placed : Placed). is_gt (text_cmp placed.bucket heading.name))
    (λ placed is. ap is_gt (later placed is)) policies in
    let rest = own-behind heading headings policies above.1 in
    λ i. here i ++ rest i
  where
    later : (placed : Placed) → same_text placed.bucket other.name ≡ true
        → text_cmp placed.bucket heading.name ≡ Greater
    later placed is =
        ap (λ bucket. text_cmp bucket heading.name) (same_text-≡ placed.bucket other.name is)
        ∙ text_total.antisymm other.name heading.name ∙ ap ordering_reverse above.0

nothing-in : (policies : List Placed) → AllByRecursion (IsIn []) policies → policies ≡ []
nothing-in [] all = refl
nothing-in (placed ∷ policies) all = absurd (true≢false (sym all.0))

-- policies in the order of their buckets are what each bucket has in turn
pub regrouped : (headings : List Heading) (policies : List Placed) → IsStrictlySortedBy heading_cmp headings
    → IsStrictlySortedBy placed_cmp policies → AllByRecursion (IsIn headings) policies
    → flat_map (λ (heading : Heading). own heading.name policies) headings ≡ policies
unfolding IsStrictlySortedBy
regrouped [] policies rise keys all = sym (nothing-in policies all)
regrouped (heading ∷ headings) policies rise keys all =
    let below : filter (λ (placed : Placed). is_lt (text_cmp placed.bucket heading.name)) policies ≡ [] =
    filter-none (λ (placed : Placed). is_lt (text_cmp placed.bucket heading.name)) policies
    (All-weaker (IsIn (heading ∷ headings)) (λ (placed : Placed). is_lt (text_cmp placed.bucket heading.name) ≡ false)
    (none-below heading headings rise) policies all) in
    let others = sym (own-behind heading headings policies rise.0)
    ∙ regrouped headings (behind heading policies) rise.1
    (IsStrictlySortedBy-filter placed_cmp
    (λ (placed : Placed). is_gt (text_cmp placed.bucket heading.name)) policies keys)
    (still-in heading headings policies all) in
    let level = own-again policies heading in
    (λ i. sym level i ++ others i)
    ∙ ap (λ front. front ++ (placed_of (filled policies heading) ++ behind heading policies)) (sym below)
    ∙ with_own-same heading.name (filled policies heading).policies policies keys (sym level)

-- the buckets, each with its policies, are the database
pub database-again : (database : Database) → IsStrictlySortedBy heading_cmp database.buckets
    → IsStrictlySortedBy placed_cmp database.policies
    → AllByRecursion (λ (placed : Placed). has_bucket placed.bucket database ≡ true) database.policies
    → database_of (map (filled database.policies) database.buckets) ≡ database
database-again database rise keys all =
    let policies = flat (database.buckets) ∙ regrouped database.buckets database.policies rise keys all in
    let buckets = headings database.buckets in
    λ i. record { buckets = buckets i; policies = policies i }
  where
    headings : (list : List Heading) → map heading_of (map (filled database.policies) list) ≡ list
    headings [] = refl
    headings (heading ∷ list) = ap (λ rest. heading ∷ rest) (headings list)

    flat : (list : List Heading) → flat_map placed_of (map (filled database.policies) list)
        ≡ flat_map (λ (heading : Heading). own heading.name database.policies) list
    flat [] = refl
    flat (heading ∷ list) =
        let here = own-again database.policies heading in
        let rest = flat list in
        λ i. here i ++ rest i
