-- What changes make of one bucket, and of all.
use Rattle.std.proofs.Common.{◌≡◌, ℕ, Bool, true, false, not, cond, ◌&&◌, List, [], ◌∷◌, ◌++◌, map, refl, sym, ap, ◌∙◌}
use Rattle.std.proofs.Common.{subst, append_assoc, append-nil}
use Rattle.std.specs.declared.cmp.Ordering.{Ordering}
use Rattle.std.specs.declared.cmp.Ordering.TheVariants.{Less, Equal, Greater}
use Rattle.std.specs.Ordering.{is_lt, is_gt, is_eq, ordering_then, ordering_reverse}
use Rattle.std.specs.List.{AllByRecursion, filter, list_any, flat_map, fold}
use Rattle.std.specs.List.Sorted.{IsStrictlySortedBy}
use Rattle.std.proofs.lemmas.Bool.{or_parts}
use Rattle.std.proofs.lemmas.List.{map-append, get_or_default}
use Rattle.std.proofs.lemmas.List.Elements.{filter-append}
use Rattle.std.proofs.lemmas.List.Kept.{IsStrictlySortedBy-filter}
use Rattle.std.proofs.lemmas.Grind.{flat_map-append}
use Rattle.std.proofs.lemmas.Cmp.{nat_list_eq_equiv}
use Rattle.cynara_keys.specs.Text.{same_text, text_cmp}
use Rattle.cynara_keys.specs.Key.{key_cmp, same_key}
use Rattle.cynara_keys.specs.PolicyResult.{Ruling}
use Rattle.cynara_keys.specs.Key.{Key}
use Rattle.cynara_keys.specs.declared.keys.Policy.{Policy}
use Rattle.cynara_keys.proofs.Order.{key_total, key_cmp-equal, text_total, text_cmp-equal, same_text-≡}
use Rattle.bucket_store.specs.Bucket.{Bucket}
use Rattle.bucket_store.specs.Database.{Heading, Placed, Database, has_bucket, heading_of, placed_of, database_of}
use Rattle.bucket_store.specs.Order.{bucket_cmp, policy_cmp, placed_cmp}
use Rattle.bucket_store.specs.Change.{after_change, is_at}
use Rattle.bucket_store.specs.parts.Edit.{bucket_of}
use Rattle.bucket_store.specs.parts.Search.{StandsAt}
use Rattle.bucket_store.specs.parts.Batch.{name_of, edited, is_own, own, changed}
use Rattle.bucket_store.specs.declared.policy_changes.Change.{Change}
use Rattle.bucket_store.specs.declared.policy_changes.Change.TheVariants.{Set, Delete}
use Rattle.bucket_store.proofs.Lists.{All-weaker, All-passing, filter-all, filter-none, filter-map}
use Rattle.std.proofs.lemmas.List.Folds.{Any-from_list_any}
use Rattle.bucket_store.proofs.Sound.{any-map}
use Rattle.bucket_store.proofs.Searching.{found, put-rises, strictly-append, lt-Less, gt-Greater}
use Rattle.bucket_store.proofs.Kept.{keep, flat-keep, names-rise-same}
use Rattle.bucket_store.proofs.Sound.{policy_total, All-flat, others-apart, others-apart', tied-same}

-- ---- one change of one bucket's policies

pub edited-rises : (policies : List Policy) (change : Change) → IsStrictlySortedBy policy_cmp policies
    → IsStrictlySortedBy policy_cmp (edited policies change)
edited-rises policies (Set name key result) rise =
    put-rises policy_total (record { key = key; result = result }) policies rise
edited-rises policies (Delete name key) rise =
    let below = filter (λ (policy : Policy). is_lt (key_cmp policy.key key)) policies in
    let above = filter (λ (policy : Policy). is_gt (key_cmp policy.key key)) policies in
    strictly-append policy_total below above
    (IsStrictlySortedBy-filter policy_cmp (λ (policy : Policy). is_lt (key_cmp policy.key key)) policies rise)
    (IsStrictlySortedBy-filter policy_cmp (λ (policy : Policy). is_gt (key_cmp policy.key key)) policies rise)
    (All-weaker (λ (policy : Policy). key_cmp policy.key key ≡ Less)
    (λ policy. AllByRecursion (λ (other : Policy). policy_cmp policy other ≡ Less) above)
    (λ policy before. All-weaker (λ (other : Policy). key_cmp other.key key ≡ Greater)
    (λ other. policy_cmp policy other ≡ Less)
    (λ other behind. key_total.trans policy.key key other.key before
    (key_total.antisymm key other.key ∙ ap ordering_reverse behind)) above
    (All-passing (λ (other : Policy). key_cmp other.key key ≡ Greater) (λ other. is_gt (key_cmp other.key key))
    (λ other h. gt-Greater (key_cmp other.key key) h) policies))
    below
    (All-passing (λ (policy : Policy). key_cmp policy.key key ≡ Less) (λ policy. is_lt (key_cmp policy.key key))
    (λ policy h. lt-Less (key_cmp policy.key key) h) policies))

-- ---- all changes of one bucket

pub fold-end : {A B : Type 0} (f : B → A → B) (b : B) (xs : List A) (x : A)
    → fold f b (xs ++ x ∷ []) ≡ f (fold f b xs) x
fold-end f b [] x = refl
fold-end f b (y ∷ xs) x = fold-end f (f b y) xs x

own-none : (name : List ℕ) (changes : List Change) → list_any (is_own name) changes ≡ false → own name changes ≡ []
own-none name [] none = refl
own-none name (change ∷ changes) none =
    let parts = or_parts (is_own name change) (list_any (is_own name) changes) none in
    ap (λ b. cond b (change ∷ own name changes) (own name changes)) parts.0 ∙ own-none name changes parts.1

pub untouched : (bucket : Bucket) (changes : List Change) → list_any (is_own bucket.name) changes ≡ false
    → changed changes bucket ≡ bucket
untouched bucket changes none = λ i. record {
  name = bucket.name;
  fallback = bucket.fallback;
  policies = fold edited bucket.policies (own-none bucket.name changes none i);
}

-- ---- one change of all buckets

abbrev pub changed_once : Change → Bucket → Bucket
changed_once change bucket = record {
  name = bucket.name;
  fallback = bucket.fallback;
  policies = cond (is_own bucket.name change) (edited bucket.policies change) bucket.policies;
}

step-cases : (change : Change) (others : List Change) (bucket : Bucket) (b : Bool)
    → bucket_of bucket.name bucket.fallback (fold edited bucket.policies (cond b (change ∷ others) others))
    ≡ bucket_of bucket.name bucket.fallback
    (fold edited (cond b (edited bucket.policies change) bucket.policies) others)
step-cases change others bucket true = refl
step-cases change others bucket false = refl

changed-step : (change : Change) (changes : List Change) (bucket : Bucket)
    → changed (change ∷ changes) bucket ≡ changed changes (changed_once change bucket)
changed-step change changes bucket = step-cases change (own bucket.name changes) bucket (is_own bucket.name change)

map-step : (change : Change) (changes : List Change) (buckets : List Bucket)
    → map (changed (change ∷ changes)) buckets ≡ map (changed changes) (map (changed_once change) buckets)
map-step change changes [] = refl
map-step change changes (bucket ∷ buckets) =
    λ i. changed-step change changes bucket i ∷ map-step change changes buckets i

abbrev AllRise : List Bucket → Type 0
AllRise buckets = AllByRecursion (λ (bucket : Bucket). IsStrictlySortedBy policy_cmp bucket.policies) buckets

once-rise : (change : Change) (buckets : List Bucket) → AllRise buckets → AllRise (map (changed_once change) buckets)
once-rise change [] all = tt
once-rise change (bucket ∷ buckets) all = (
  elim (is_own bucket.name change) as
      (λ b. IsStrictlySortedBy policy_cmp (cond b (edited bucket.policies change) bucket.policies))
      [ true ↦ edited-rises bucket.policies change all.0 | false ↦ all.0 ],
  once-rise change buckets all.1,
)

headings-once : (change : Change) (buckets : List Bucket)
    → map heading_of (map (changed_once change) buckets) ≡ map heading_of buckets
headings-once change [] = refl
headings-once change (bucket ∷ buckets) = ap (λ rest. heading_of bucket ∷ rest) (headings-once change buckets)

text_same : (a b : List ℕ) → same_text a b ≡ true → same_text b a ≡ true
text_same a b h = nat_list_eq_equiv.symm b a ∙ h

text_apart : (a b : List ℕ) → same_text a b ≡ false → same_text b a ≡ false
text_apart a b h = nat_list_eq_equiv.symm b a ∙ h

-- those that come behind a key: none is before it, and none is at it
module _ (key : Key) where
  abbrev before : List Policy → List Policy
  before policies = filter (λ policy. is_lt (key_cmp policy.key key)) policies

  abbrev behind : List Policy → List Policy
  behind policies = filter (λ policy. is_gt (key_cmp policy.key key)) policies

  abbrev apart : List Policy → List Policy
  apart policies = filter (λ policy. not (same_key policy.key key)) policies

  head-key : (policy : Policy) (policies : List Policy)
      → AllByRecursion (λ (later : Policy). policy_cmp policy later ≡ Less) policies
      → filter (λ (policy : Policy). not (same_key policy.key key)) policies
      ≡ filter (λ (policy : Policy). is_lt (key_cmp policy.key key)) policies
      ++ filter (λ (policy : Policy). is_gt (key_cmp policy.key key)) policies
      → (o : Ordering) → key_cmp policy.key key ≡ o
      → cond (not (is_eq o)) (policy ∷ filter (λ (policy : Policy). not (same_key policy.key key)) policies)
      (filter (λ (policy : Policy). not (same_key policy.key key)) policies)
      ≡ cond (is_lt o) (policy ∷ filter (λ (policy : Policy). is_lt (key_cmp policy.key key)) policies)
      (filter (λ (policy : Policy). is_lt (key_cmp policy.key key)) policies)
      ++ cond (is_gt o) (policy ∷ filter (λ (policy : Policy). is_gt (key_cmp policy.key key)) policies)
      (filter (λ (policy : Policy). is_gt (key_cmp policy.key key)) policies)
  head-key policy policies later rest Less is = ap (λ list. policy ∷ list) rest
  head-key policy policies later rest Equal is = rest
  head-key policy policies later rest Greater is =
      let none_before : filter (λ (other : Policy). is_lt (key_cmp other.key key)) policies ≡ [] =
      filter-none (λ (other : Policy). is_lt (key_cmp other.key key)) policies
      (All-weaker (λ (other : Policy). policy_cmp policy other ≡ Less) (λ other. is_lt (key_cmp other.key key) ≡ false)
      (λ other after. ap is_lt (key_total.antisymm other.key key
      ∙ ap ordering_reverse
      (key_total.trans key policy.key other.key (key_total.antisymm key policy.key ∙ ap ordering_reverse is) after)))
      policies later) in
      ap (λ list. policy ∷ list)
      (rest ∙ ap (λ front. front ++ filter (λ (other : Policy). is_gt (key_cmp other.key key)) policies)
      none_before)
      ∙ ap (λ front. front ++ policy ∷ filter (λ (other : Policy). is_gt (key_cmp other.key key)) policies)
      (sym none_before)

  without-key : (policies : List Policy) → IsStrictlySortedBy policy_cmp policies
      → filter (λ (policy : Policy). not (same_key policy.key key)) policies
      ≡ filter (λ (policy : Policy). is_lt (key_cmp policy.key key)) policies
      ++ filter (λ (policy : Policy). is_gt (key_cmp policy.key key)) policies
  unfolding IsStrictlySortedBy
  without-key [] rise = refl
  without-key (policy ∷ policies) rise =
      ap (λ b. cond (not b) (policy ∷ filter (λ (policy : Policy). not (same_key policy.key key)) policies)
      (filter (λ (policy : Policy). not (same_key policy.key key)) policies))
      (sym (key_cmp-equal policy.key key))
      ∙ head-key policy policies rise.0 (without-key policies rise.1) (key_cmp policy.key key) refl

-- ---- a policy taken out

deleted-is : (name : List ℕ) (key : Key) (bucket : Bucket) → IsStrictlySortedBy policy_cmp bucket.policies
    → changed_once (Delete name key) bucket ≡ keep (λ placed. not (is_at name key placed)) bucket
deleted-is name key bucket rise = parts (same_text bucket.name name) refl
  where
    all : (policies : List Policy) → filter (λ policy. true) policies ≡ policies
    all [] = refl
    all (policy ∷ policies) = ap (λ rest. policy ∷ rest) (all policies)

    sides : Bool → Bucket
    sides b = record {
      name = bucket.name;
      fallback = bucket.fallback;
      policies = cond b (edited bucket.policies (Delete name key)) bucket.policies;
    }

    parts : (b : Bool) → same_text bucket.name name ≡ b
        → changed_once (Delete name key) bucket ≡ keep (λ placed. not (is_at name key placed)) bucket
    parts true is =
        let turned = text_same bucket.name name is in
        λ i. record {
          name = bucket.name;
          fallback = bucket.fallback;
          policies = (ap (λ b. cond b (edited bucket.policies (Delete name key)) bucket.policies) turned
              ∙ sym (without-key key bucket.policies rise)
              ∙ ap (λ b. filter (λ (policy : Policy). not (b && same_key policy.key key)) bucket.policies) (sym is)) i;
        }
    parts false is =
        let turned = text_apart bucket.name name is in
        λ i. record {
          name = bucket.name;
          fallback = bucket.fallback;
          policies = (ap (λ b. cond b (edited bucket.policies (Delete name key)) bucket.policies) turned
              ∙ sym (all bucket.policies)
              ∙ ap (λ b. filter (λ (policy : Policy). not (b && same_key policy.key key)) bucket.policies) (sym is)) i;
        }

flat-deleted : (name : List ℕ) (key : Key) (buckets : List Bucket) → AllRise buckets
    → flat_map placed_of (map (changed_once (Delete name key)) buckets) ≡ after_change (flat_map placed_of buckets)
    (Delete name key)
flat-deleted name key buckets all =
    ap (flat_map placed_of) (same buckets all) ∙ flat-keep (λ placed. not (is_at name key placed)) buckets
  where
    same : (buckets : List Bucket) → AllRise buckets
        → map (changed_once (Delete name key)) buckets ≡ map (keep (λ placed. not (is_at name key placed))) buckets
    same [] all = refl
    same (bucket ∷ buckets) all = λ i. deleted-is name key bucket all.0 i ∷ same buckets all.1 i

-- ---- a policy put

place : List ℕ → Policy → Placed
place name policy = record { bucket = name; policy = policy }

once-apart : (change : Change) (bucket : Bucket) → is_own bucket.name change ≡ false
    → changed_once change bucket ≡ bucket
once-apart change bucket apart =
    ap (λ b. bucket_of bucket.name bucket.fallback (cond b (edited bucket.policies change) bucket.policies)) apart

once-same : (change : Change) (bucket : Bucket) → is_own bucket.name change ≡ true
    → changed_once change bucket ≡ bucket_of bucket.name bucket.fallback (edited bucket.policies change)
once-same change bucket mine =
    ap (λ b. bucket_of bucket.name bucket.fallback (cond b (edited bucket.policies change) bucket.policies)) mine

map-apart : (change : Change) (buckets : List Bucket)
    → AllByRecursion (λ (bucket : Bucket). is_own bucket.name change ≡ false) buckets
    → map (changed_once change) buckets ≡ buckets
map-apart change [] all = refl
map-apart change (bucket ∷ buckets) all = λ i. once-apart change bucket all.0 i ∷ map-apart change buckets all.1 i

-- how the policies of one bucket compare with one of this name
module _ (name : List ℕ) (key : Key) (result : Ruling) where
  abbrev new : Placed
  new = record { bucket = name; policy = record { key = key; result = result } }

  abbrev at_name : Bucket → Ordering
  at_name bucket = text_cmp bucket.name name

  all-compare : (test : Ordering → Bool) (o : Ordering) (b : Bool)
      → ((key_order : Ordering) → test (ordering_then o key_order) ≡ b)
      → (buckets : List Bucket) → AllByRecursion (λ (bucket : Bucket). text_cmp bucket.name name ≡ o) buckets
      → AllByRecursion (λ (placed : Placed). test
      (placed_cmp placed (record { bucket = name; policy = record { key = key; result = result } })) ≡ b)
      (flat_map placed_of buckets)
  all-compare test o b gives buckets all =
      All-flat (λ (placed : Placed). test
      (placed_cmp placed (record { bucket = name; policy = record { key = key; result = result } })) ≡ b)
      (λ bucket. text_cmp bucket.name name ≡ o)
      (λ bucket is policy. ap (λ order. test (ordering_then order (key_cmp policy.key key))) is
      ∙ gives (key_cmp policy.key key)) buckets all

  own-compare : (test : Ordering → Bool) (bucket : Bucket) → text_cmp bucket.name name ≡ Equal
      → filter (λ (placed : Placed). test
      (placed_cmp placed (record { bucket = name; policy = record { key = key; result = result } })))
      (placed_of bucket)
      ≡ map (λ policy. let placed : Placed = record { bucket = bucket.name; policy = policy } in placed)
      (filter (λ policy. test (key_cmp policy.key key)) bucket.policies)
  own-compare test bucket ties =
      filter-map (λ (placed : Placed). test
      (placed_cmp placed (record { bucket = name; policy = record { key = key; result = result } })))
      (λ policy. let placed : Placed = record { bucket = bucket.name; policy = policy } in placed) bucket.policies
      ∙ ap (λ order. map (λ policy. let placed : Placed = record { bucket = bucket.name; policy = policy } in placed)
      (filter (λ (policy : Policy). test (ordering_then order (key_cmp policy.key key))) bucket.policies)) ties

  module _ (front : List Bucket) (bucket : Bucket) (back : List Bucket)
      (before : AllByRecursion (λ (other : Bucket). text_cmp other.name name ≡ Less) front)
      (ties : text_cmp bucket.name name ≡ Equal)
      (behind : AllByRecursion (λ (other : Bucket). text_cmp other.name name ≡ Greater) back) where
    abbrev test_of : (Ordering → Bool) → Placed → Bool
    test_of test placed =
        test (placed_cmp placed (record { bucket = name; policy = record { key = key; result = result } }))

    parted : (test : Ordering → Bool)
        → filter (λ (placed : Placed). test
        (placed_cmp placed (record { bucket = name; policy = record { key = key; result = result } })))
        (flat_map placed_of (front ++ bucket ∷ back))
        ≡ filter (λ (placed : Placed). test
        (placed_cmp placed (record { bucket = name; policy = record { key = key; result = result } })))
        (flat_map placed_of front)
        ++ (map (λ policy. let placed : Placed = record { bucket = bucket.name; policy = policy } in placed)
        (filter (λ policy. test (key_cmp policy.key key)) bucket.policies)
        ++ filter (λ (placed : Placed). test
        (placed_cmp placed (record { bucket = name; policy = record { key = key; result = result } })))
        (flat_map placed_of back))
    parted test =
        let tests : Placed → Bool =
        λ placed. test (placed_cmp placed (record { bucket = name; policy = record { key = key; result = result } })) in
        ap (filter tests) (flat_map-append placed_of front (bucket ∷ back))
        ∙ filter-append tests (flat_map placed_of front) (placed_of bucket ++ flat_map placed_of back)
        ∙ ap (λ rest. filter tests (flat_map placed_of front) ++ rest)
        (filter-append tests (placed_of bucket) (flat_map placed_of back)
        ∙ ap (λ list. list ++ filter tests (flat_map placed_of back)) (own-compare test bucket ties))

    below-flat : filter (λ (placed : Placed). is_lt
        (placed_cmp placed (record { bucket = name; policy = record { key = key; result = result } })))
        (flat_map placed_of (front ++ bucket ∷ back))
        ≡ flat_map placed_of front
        ++ map (λ policy. let placed : Placed = record { bucket = bucket.name; policy = policy } in placed)
        (filter (λ policy. is_lt (key_cmp policy.key key)) bucket.policies)
    below-flat =
        let tests : Placed → Bool =
        λ placed. is_lt (placed_cmp placed
        (record { bucket = name; policy = record { key = key; result = result } })) in
        let middle = map (λ policy. let placed : Placed = record { bucket = bucket.name; policy = policy } in placed)
        (filter (λ policy. is_lt (key_cmp policy.key key)) bucket.policies) in
        parted is_lt
        ∙ (λ i. filter-all tests (flat_map placed_of front) (all-compare is_lt Less true (λ o. refl) front before) i
        ++ (middle ++ filter-none tests (flat_map placed_of back)
        (all-compare is_lt Greater false (λ o. refl) back behind) i))
        ∙ ap (λ rest. flat_map placed_of front ++ rest) (append-nil middle)

    above-flat : filter (λ (placed : Placed). is_gt
        (placed_cmp placed (record { bucket = name; policy = record { key = key; result = result } })))
        (flat_map placed_of (front ++ bucket ∷ back))
        ≡ map (λ policy. let placed : Placed = record { bucket = bucket.name; policy = policy } in placed)
        (filter (λ policy. is_gt (key_cmp policy.key key)) bucket.policies)
        ++ flat_map placed_of back
    above-flat =
        let tests : Placed → Bool =
        λ placed. is_gt (placed_cmp placed
        (record { bucket = name; policy = record { key = key; result = result } })) in
        let middle = map (λ policy. let placed : Placed = record { bucket = bucket.name; policy = policy } in placed)
        (filter (λ policy. is_gt (key_cmp policy.key key)) bucket.policies) in
        parted is_gt
        ∙ (λ i. filter-none tests (flat_map placed_of front) (all-compare is_gt Less false (λ o. refl) front before) i
        ++ (middle ++ filter-all tests (flat_map placed_of back)
        (all-compare is_gt Greater true (λ o. refl) back behind) i))

    once-flat : flat_map placed_of (map (changed_once (Set name key result)) (front ++ bucket ∷ back))
        ≡ (flat_map placed_of front
        ++ map (λ policy. let placed : Placed = record { bucket = bucket.name; policy = policy } in placed)
        (filter (λ policy. is_lt (key_cmp policy.key key)) bucket.policies))
        ++ (record { bucket = name; policy = record { key = key; result = result } })
        ∷ (map (λ policy. let placed : Placed = record { bucket = bucket.name; policy = policy } in placed)
        (filter (λ policy. is_gt (key_cmp policy.key key)) bucket.policies)
        ++ flat_map placed_of back)
    once-flat =
        let change : Change = Set name key result in
        let put_in : Policy → Placed = λ policy. record { bucket = bucket.name; policy = policy } in
        let below = filter (λ (policy : Policy). is_lt (key_cmp policy.key key)) bucket.policies in
        let above = filter (λ (policy : Policy). is_gt (key_cmp policy.key key)) bucket.policies in
        let policy : Policy = record { key = key; result = result } in
        let same : same_text bucket.name name ≡ true = tied-same name bucket ties in
        let mine : is_own bucket.name change ≡ true = text_same bucket.name name same in
        let fronts : map (changed_once change) front ≡ front =
        map-apart change front
        (All-weaker (λ (other : Bucket). same_text other.name name ≡ false)
        (λ other. is_own other.name change ≡ false)
        (λ other apart. text_apart other.name name apart) front (others-apart name front before)) in
        let backs : map (changed_once change) back ≡ back =
        map-apart change back
        (All-weaker (λ (other : Bucket). same_text other.name name ≡ false)
        (λ other. is_own other.name change ≡ false)
        (λ other apart. text_apart other.name name apart) back (others-apart' name back behind)) in
        let named : put_in policy ≡ (record { bucket = name; policy = policy }) =
        (λ i. record { bucket = same_text-≡ bucket.name name same i; policy = policy }) in
        ap (flat_map placed_of) (map-append (changed_once change) front (bucket ∷ back)
        ∙ (λ i. fronts i ++ once-same change bucket mine i ∷ backs i))
        ∙ flat_map-append placed_of front (bucket_of bucket.name bucket.fallback (edited bucket.policies change) ∷ back)
        ∙ ap (λ own. flat_map placed_of front ++ (own ++ flat_map placed_of back))
        (map-append put_in below (policy ∷ above) ∙ ap (λ one. map put_in below ++ one ∷ map put_in above) named)
        ∙ ap (λ rest. flat_map placed_of front ++ rest)
        (append_assoc (map put_in below) ((record { bucket = name; policy = policy }) ∷ map put_in above)
        (flat_map placed_of back))
        ∙ sym (append_assoc (flat_map placed_of front) (map put_in below)
        ((record { bucket = name; policy = policy }) ∷ (map put_in above ++ flat_map placed_of back)))

    flat-put-parts : flat_map placed_of (map (changed_once (Set name key result)) (front ++ bucket ∷ back))
        ≡ after_change (flat_map placed_of (front ++ bucket ∷ back)) (Set name key result)
    flat-put-parts =
        once-flat ∙ (λ i. sym below-flat i
        ++ (record { bucket = name; policy = record { key = key; result = result } }) ∷ sym above-flat i)

  flat-put : (buckets : List Bucket) (at : ℕ) → StandsAt (λ (bucket : Bucket). text_cmp bucket.name name) buckets at
      → flat_map placed_of (map (changed_once (Set name key result)) buckets) ≡ after_change
      (flat_map placed_of buckets) (Set name key result)
  flat-put buckets at stands =
      subst (λ list. flat_map placed_of (map (changed_once (Set name key result)) list) ≡ after_change
      (flat_map placed_of list) (Set name key result))
      (sym stands.parts) (flat-put-parts stands.front stands.element stands.back stands.before stands.ties
      stands.behind)

-- ---- all changes of all buckets

eq-Equal : (o : Ordering) → is_eq o ≡ true → o ≡ Equal
eq-Equal Less h = cc
eq-Equal Equal h = refl
eq-Equal Greater h = cc

stands-there : (name : List ℕ) (buckets : List Bucket) → IsStrictlySortedBy bucket_cmp buckets
    → has_bucket name (database_of buckets) ≡ true
    → (at : ℕ) × StandsAt (λ (bucket : Bucket). text_cmp bucket.name name) buckets at
stands-there name buckets rise has =
    let at =
    Any-from_list_any (λ (bucket : Bucket). same_text bucket.name name) buckets
    (sym (any-map (λ (heading : Heading). same_text heading.name name) heading_of buckets) ∙ has) in (
      at.0,
      found text_total (λ (bucket : Bucket). bucket.name) name buckets at.0 rise at.2
          (λ d. ap (λ (bucket : Bucket). text_cmp bucket.name name) (get_or_default buckets at.0 d at.1 at.2 ∙ at.3)
          ∙ eq-Equal (text_cmp at.1.name name) (text_cmp-equal at.1.name name ∙ at.4)),
    )

-- the bucket of each change is there
abbrev pub AreThere : Database → List Change → Type 0
AreThere database changes = AllByRecursion (λ change. has_bucket (name_of change) database ≡ true) changes

flat-once : (change : Change) (buckets : List Bucket) → IsStrictlySortedBy bucket_cmp buckets
    → AllByRecursion (λ (bucket : Bucket). IsStrictlySortedBy policy_cmp bucket.policies) buckets
    → has_bucket (name_of change) (database_of buckets) ≡ true
    → flat_map placed_of (map (changed_once change) buckets) ≡ after_change (flat_map placed_of buckets) change
flat-once (Set name key result) buckets rise keys has =
    let at = stands-there name buckets rise has in
    flat-put name key result buckets at.0 at.1
flat-once (Delete name key) buckets rise keys has = flat-deleted name key buckets keys

there-still : (change : Change) (buckets : List Bucket) (changes : List Change) → AreThere (database_of buckets) changes
    → AreThere (database_of (map (changed_once change) buckets)) changes
there-still change buckets changes all =
    All-weaker (λ (other : Change). has_bucket (name_of other) (database_of buckets) ≡ true)
    (λ other. has_bucket (name_of other) (database_of (map (changed_once change) buckets)) ≡ true)
    (λ other has. ap (list_any (λ (heading : Heading). same_text heading.name (name_of other)))
    (headings-once change buckets) ∙ has) changes all

pub flat-changed : (changes : List Change) (buckets : List Bucket) → IsStrictlySortedBy bucket_cmp buckets
    → AllByRecursion (λ (bucket : Bucket). IsStrictlySortedBy policy_cmp bucket.policies) buckets
    → AreThere (database_of buckets) changes
    → flat_map placed_of (map (changed changes) buckets) ≡ fold after_change (flat_map placed_of buckets) changes
flat-changed [] buckets rise keys there = ap (flat_map placed_of) (map-same buckets)
  where
    map-same : (buckets : List Bucket) → map (changed []) buckets ≡ buckets
    map-same [] = refl
    map-same (bucket ∷ buckets) = ap (λ rest. bucket ∷ rest) (map-same buckets)
flat-changed (change ∷ changes) buckets rise keys there =
    ap (flat_map placed_of) (map-step change changes buckets)
    ∙ flat-changed changes (map (changed_once change) buckets)
    (names-rise-same (changed_once change) (λ bucket. refl) buckets rise)
    (once-rise change buckets keys) (there-still change buckets changes there.1)
    ∙ ap (λ list. fold after_change list changes) (flat-once change buckets rise keys there.0)

pub headings-changed : (changes : List Change) (buckets : List Bucket)
    → map heading_of (map (changed changes) buckets) ≡ map heading_of buckets
headings-changed changes [] = refl
headings-changed changes (bucket ∷ buckets) = ap (λ rest. heading_of bucket ∷ rest) (headings-changed changes buckets)

fold-rises : (policies : List Policy) (changes : List Change) → IsStrictlySortedBy policy_cmp policies
    → IsStrictlySortedBy policy_cmp (fold edited policies changes)
fold-rises policies [] rise = rise
fold-rises policies (change ∷ changes) rise =
    fold-rises (edited policies change) changes (edited-rises policies change rise)

pub keys-changed : (changes : List Change) (buckets : List Bucket)
    → AllByRecursion (λ (bucket : Bucket). IsStrictlySortedBy policy_cmp bucket.policies) buckets
    → AllByRecursion (λ (bucket : Bucket). IsStrictlySortedBy policy_cmp bucket.policies)
    (map (changed changes) buckets)
keys-changed changes [] keys = tt
keys-changed changes (bucket ∷ buckets) keys =
    (fold-rises bucket.policies (own bucket.name changes) keys.0, keys-changed changes buckets keys.1)

pub names-changed : (changes : List Change) (buckets : List Bucket) → IsStrictlySortedBy bucket_cmp buckets
    → IsStrictlySortedBy bucket_cmp (map (changed changes) buckets)
names-changed changes buckets rise = names-rise-same (changed changes) (λ bucket. refl) buckets rise
