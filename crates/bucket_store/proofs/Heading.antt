-- A bucket made, or its fallback changed.
use Rattle.std.proofs.Common.{◌≡◌, ℕ, ◌+◌, ◌<◌, ◌≤◌, Bool, true, false, cond, ◌||◌, nat_lt, List, [], ◌∷◌, ◌++◌, length}
use Rattle.std.proofs.Common.{map, get_or, set, Some, None, Result, Ok, Err, IfOk, IfErr, is_ok, refl, sym, ap, ◌∙◌}
use Rattle.std.proofs.Common.{subst, arith}
use Rattle.std.specs.Option.{option_map}
use Rattle.std.specs.declared.cmp.Ordering.{Ordering}
use Rattle.std.specs.declared.cmp.Ordering.TheVariants.{Less, Equal, Greater}
use Rattle.std.specs.Ordering.{is_lt, is_gt, is_eq}
use Rattle.std.specs.Cmp.{IsTotalOrder}
use Rattle.std.specs.List.{AllByRecursion, filter, list_any, flat_map}
use Rattle.std.specs.List.Sorted.{IsStrictlySortedBy}
use Rattle.std.proofs.lemmas.Bool.{true≢false, or_left, or_cases, lt-ltb, ltb-true, ltb-false}
use mathlib.Core.Logic.{⊎_elim}
use Rattle.std.proofs.lemmas.Cmp.{on_total}
use Rattle.std.proofs.lemmas.List.{map-append, get_or_at, length-append}
use Rattle.std.proofs.lemmas.List.Folds.{list_any-append}
use Rattle.std.proofs.lemmas.List.Edits.{length-insert}
use Rattle.std.proofs.Math.ListN.{length-set}
use Rattle.std.proofs.lemmas.Grind.{flat_map-append}
use Rattle.cynara_keys.specs.Text.{same_text, text_cmp}
use Rattle.cynara_keys.specs.PolicyResult.{Ruling}
use Rattle.cynara_keys.specs.declared.keys.Policy.{Policy}
use Rattle.cynara_keys.specs.declared.limits.Counted.TheVariants.{Buckets, Policies}
use Rattle.cynara_keys.proofs.Order.{same_text-≡, text_total, text_cmp-equal}
use Rattle.bucket_store.specs.Bucket.{Bucket}
use Rattle.bucket_store.specs.Database.{Heading, Database, root, has_bucket, heading_of, placed_of, database_of}
use Rattle.bucket_store.specs.Order.{bucket_cmp, heading_cmp, policy_cmp, put}
use Rattle.bucket_store.specs.Walk.{target}
use Rattle.bucket_store.specs.Change.{with_bucket}
use Rattle.bucket_store.specs.Refusal.{fault, set_bucket, limit, cycle, first_of, is_bad, most_buckets, most_policies}
use Rattle.bucket_store.specs.WellFormed.{IsRooted, IsSound, IsKept}
use Rattle.bucket_store.specs.parts.Edit.{headed, bucket_of}
use Rattle.bucket_store.specs.parts.Search.{StandsAt, BelongsAt}
use Rattle.bucket_store.specs.declared.refusals.StoreRefusal.TheVariants.{BadKind, Limit}
use Rattle.bucket_store.proofs.Lists.{All-weaker, All-append, All-filter, All-back, filter-map}
use Rattle.bucket_store.proofs.Searching.{put-StandsAt, put-BelongsAt, put-rises, below-tied, above-tied, below-front}
use Rattle.bucket_store.proofs.Searching.{above-back}
use Rattle.bucket_store.proofs.Sound.{limit-sound, cycle-sound}
use Rattle.bucket_store.proofs.Walks.{NoCycle-tested, tested-NoCycle}

-- ---- what an element put in its place leaves

cmp-tied : (a b : List ℕ) → text_cmp a b ≡ Equal → a ≡ b
cmp-tied a b h = same_text-≡ a b (sym (text_cmp-equal a b) ∙ ap is_eq h)

or_add : (x a b n : Bool) → (a || (n || b)) ≡ true → ((x || a) || (n || b)) ≡ true
or_add true a b n h = refl
or_add false a b n h = h

or_mid : (x a b n : Bool) → (a || (n || b)) ≡ true → (a || (n || (x || b))) ≡ true
or_mid x true b n h = refl
or_mid x false b true h = refl
or_mid true false b false h = refl
or_mid false false b false h = h

or_new : (a b n : Bool) → n ≡ true → (a || (n || b)) ≡ true
or_new true b n h = refl
or_new false b n h = ap (λ m. m || b) h

or_third : (a b n x : Bool) → x ≡ true → (a || (n || (x || b))) ≡ true
or_third true b n x h = refl
or_third false b true x h = refl
or_third false b false x h = ap (λ m. m || b) h

module _ {X : Type 0} (test : X → Bool) (cmp : X → X → Ordering) (new : X)
    (instead : (other : X) → cmp other new ≡ Equal → test other ≡ true → test new ≡ true) where
  one_more : (x : X) (xs : List X) (o : Ordering) → cmp x new ≡ o → (list_any test xs ≡ true
      → (list_any test (filter (λ other. is_lt (cmp other new)) xs)
      || (test new || list_any test (filter (λ other. is_gt (cmp other new)) xs))) ≡ true)
      → (test x || list_any test xs) ≡ true
      → (list_any test (cond (is_lt o) (x ∷ filter (λ other. is_lt (cmp other new)) xs)
      (filter (λ other. is_lt (cmp other new)) xs))
      || (test new || list_any test
      (cond (is_gt o) (x ∷ filter (λ other. is_gt (cmp other new)) xs) (filter (λ other. is_gt (cmp other new)) xs))))
      ≡ true
  one_more x xs Less is rest any =
      ⊎_elim (λ here. or_left _ _ (or_left _ _ here))
      (λ later. or_add (test x) (list_any test (filter (λ other. is_lt (cmp other new)) xs))
      (list_any test (filter (λ other. is_gt (cmp other new)) xs)) (test new) (rest later)) (or_cases _ _ any)
  one_more x xs Equal is rest any =
      ⊎_elim (λ here. or_new _ _ _ (instead x is here)) (λ later. rest later) (or_cases _ _ any)
  one_more x xs Greater is rest any =
      ⊎_elim (λ here. or_third _ _ _ _ here)
      (λ later. or_mid (test x) (list_any test (filter (λ other. is_lt (cmp other new)) xs))
      (list_any test (filter (λ other. is_gt (cmp other new)) xs)) (test new) (rest later)) (or_cases _ _ any)

  any_stays : (xs : List X) → list_any test xs ≡ true
      → (list_any test (filter (λ other. is_lt (cmp other new)) xs)
      || (test new || list_any test (filter (λ other. is_gt (cmp other new)) xs))) ≡ true
  any_stays [] any = absurd (true≢false (sym any))
  any_stays (x ∷ xs) any = one_more x xs (cmp x new) refl (any_stays xs) any

  -- what passes a test passes it still, where what takes its place does
  pub any-put : (xs : List X) → list_any test xs ≡ true → list_any test (put cmp new xs) ≡ true
  any-put xs any =
      list_any-append test (filter (λ other. is_lt (cmp other new)) xs)
      (new ∷ filter (λ other. is_gt (cmp other new)) xs)
      ∙ any_stays xs any

-- ---- the database that a heading leads to

has-with : (heading : Heading) (other : List ℕ) (database : Database) → has_bucket other database ≡ true
    → has_bucket other (with_bucket heading database) ≡ true
has-with heading other database has =
    any-put (λ (here : Heading). same_text here.name other) heading_cmp heading
    (λ here tied same. ap (λ name. same_text name other) (sym (cmp-tied here.name heading.name tied)) ∙ same)
    database.buckets has

pub Sound-with : (heading : Heading) (database : Database) → is_bad heading ≡ false
    → length (with_bucket heading database).buckets ≤ most_buckets → IsSound database
    → IsSound (with_bucket heading database)
Sound-with heading database good short sound = record {
  root = has-with heading root database sound.root;
  fallbacks =
      All-append (λ (other : Heading). is_bad other ≡ false)
      (filter (λ other. is_lt (heading_cmp other heading)) database.buckets)
      (heading ∷ filter (λ other. is_gt (heading_cmp other heading)) database.buckets)
      (All-filter (λ (other : Heading). is_bad other ≡ false) (λ other. is_lt (heading_cmp other heading))
      database.buckets sound.fallbacks) (
        good,
        All-filter (λ (other : Heading). is_bad other ≡ false) (λ other. is_gt (heading_cmp other heading))
            database.buckets sound.fallbacks,
      );
  rooted =
      All-weaker (IsRooted database) (IsRooted (with_bucket heading database))
      (λ placed is. record {
        own = has-with heading placed.bucket database is.own;
        target = λ links. has-with heading (target placed.policy) database (is.target links);
      }) database.policies sound.rooted;
  buckets = short;
  policies = sound.policies;
  no_cycle = tested-NoCycle (with_bucket heading database) (NoCycle-tested database sound.rooted sound.no_cycle);
}

-- ---- the buckets that it leads to

bucket_total : IsTotalOrder bucket_cmp
bucket_total = on_total (λ (bucket : Bucket). bucket.name) text_total

-- a search's answer, with what it says
pub record IsPlace (name : List ℕ) (buckets : List Bucket) (place : Result ℕ ℕ) : Type 0 where
  pub found : IfOk place (StandsAt (λ (bucket : Bucket). text_cmp bucket.name name) buckets)
  pub absent : IfErr place (BelongsAt (λ (bucket : Bucket). text_cmp bucket.name name) buckets)

-- the policies of the bucket of this name
record Own (name : List ℕ) (fallback : Ruling) (buckets : List Bucket) (place : Result ℕ ℕ) : Type 0 where
  policies : List Policy
  is : headed place name fallback buckets ≡ put bucket_cmp (bucket_of name fallback policies) buckets
  rise : AllByRecursion (λ (bucket : Bucket). IsStrictlySortedBy policy_cmp bucket.policies) buckets
      → IsStrictlySortedBy policy_cmp policies
  flat : flat_map placed_of (put bucket_cmp (bucket_of name fallback policies) buckets) ≡ flat_map placed_of buckets

placed-named : (name : List ℕ) (fallback : Ruling) (bucket : Bucket) → bucket.name ≡ name
    → placed_of (bucket_of name fallback bucket.policies) ≡ placed_of bucket
placed-named name fallback bucket same = ap (λ own. placed_of (bucket_of own fallback bucket.policies)) (sym same)

own_of : (name : List ℕ) (fallback : Ruling) (buckets : List Bucket) (place : Result ℕ ℕ) → IsPlace name buckets place
    → Own name fallback buckets place
unfolding IsStrictlySortedBy
own_of name fallback buckets (Ok at) is =
    let stands = is.found in
    let element = stands.element in
    let answer : Bucket → Ordering = λ bucket. text_cmp bucket.name name in
    let none : Bucket = bucket_of name fallback [] in
    let there : get_or buckets at none ≡ element =
    ap (λ xs. get_or xs at none) stands.parts
    ∙ get_or_at stands.front element stands.back none at stands.length_front in
    let new = bucket_of name fallback element.policies in
    let below : filter (λ bucket. is_lt (answer bucket)) buckets ≡ stands.front =
    ap (filter (λ bucket. is_lt (answer bucket))) stands.parts
    ∙ below-tied answer stands.front element stands.back stands.before stands.ties stands.behind in
    let above : filter (λ bucket. is_gt (answer bucket)) buckets ≡ stands.back =
    ap (filter (λ bucket. is_gt (answer bucket))) stands.parts
    ∙ above-tied answer stands.front element stands.back stands.before stands.ties stands.behind in
    record {
      policies = element.policies;
      is = ap (λ (own : Bucket). set buckets at (bucket_of name fallback own.policies)) there
          ∙ put-StandsAt answer stands new;
      rise = λ all. (All-back (λ (bucket : Bucket). IsStrictlySortedBy policy_cmp bucket.policies) stands.front
          (element ∷ stands.back)
          (subst (AllByRecursion (λ (bucket : Bucket). IsStrictlySortedBy policy_cmp bucket.policies))
          stands.parts all)).0;
      flat =
          (λ i. flat_map placed_of (below i ++ new ∷ above i))
          ∙ flat_map-append placed_of stands.front (new ∷ stands.back)
          ∙ ap (λ own. flat_map placed_of stands.front ++ (own ++ flat_map placed_of stands.back))
          (placed-named name fallback element (cmp-tied element.name name stands.ties))
          ∙ sym (flat_map-append placed_of stands.front (element ∷ stands.back))
          ∙ ap (flat_map placed_of) (sym stands.parts);
    }
own_of name fallback buckets (Err at) is =
    let belongs = is.absent in
    let answer : Bucket → Ordering = λ bucket. text_cmp bucket.name name in
    let new : Bucket = bucket_of name fallback [] in
    let below : filter (λ bucket. is_lt (answer bucket)) buckets ≡ belongs.front =
    ap (filter (λ bucket. is_lt (answer bucket))) belongs.parts
    ∙ below-front answer belongs.front belongs.back belongs.before belongs.behind in
    let above : filter (λ bucket. is_gt (answer bucket)) buckets ≡ belongs.back =
    ap (filter (λ bucket. is_gt (answer bucket))) belongs.parts
    ∙ above-back answer belongs.front belongs.back belongs.before belongs.behind in
    record {
      policies = [];
      is = put-BelongsAt answer belongs new;
      rise = λ all. tt;
      flat =
          (λ i. flat_map placed_of (below i ++ new ∷ above i))
          ∙ flat_map-append placed_of belongs.front (new ∷ belongs.back)
          ∙ sym (flat_map-append placed_of belongs.front belongs.back) ∙ ap (flat_map placed_of) (sym belongs.parts);
    }

headings-put : (new : Bucket) (buckets : List Bucket)
    → map heading_of (put bucket_cmp new buckets) ≡ put heading_cmp (heading_of new) (map heading_of buckets)
headings-put new buckets =
    map-append heading_of (filter (λ other. is_lt (bucket_cmp other new)) buckets)
    (new ∷ filter (λ other. is_gt (bucket_cmp other new)) buckets)
    ∙ (λ i. sym (filter-map (λ (other : Heading). is_lt (heading_cmp other (heading_of new))) heading_of buckets) i
    ++ heading_of new ∷ sym
    (filter-map (λ (other : Heading). is_gt (heading_cmp other (heading_of new))) heading_of buckets) i)

module _ (name : List ℕ) (fallback : Ruling) (buckets : List Bucket) (place : Result ℕ ℕ)
    (is : IsPlace name buckets place) where
  abbrev heading : Heading
  heading = record { name = name; fallback = fallback }

  pub headed-view : (list : List Bucket) → list ≡ headed place name fallback buckets
      → database_of list ≡ with_bucket heading (database_of buckets)
  headed-view list made =
      let own = own_of name fallback buckets place is in
      ap database_of (made ∙ own.is)
      ∙ (λ i. record { buckets = headings-put (bucket_of name fallback own.policies) buckets i; policies = own.flat i })

  pub Kept-headed : (list : List Bucket) → list ≡ headed place name fallback buckets → is_bad heading ≡ false
      → length (with_bucket heading (database_of buckets)).buckets ≤ most_buckets → IsKept buckets → IsKept list
  Kept-headed list made good short kept =
      let own = own_of name fallback buckets place is in
      let new : Bucket = bucket_of name fallback own.policies in
      let rises = λ (bucket : Bucket). IsStrictlySortedBy policy_cmp bucket.policies in
      subst IsKept (sym (made ∙ own.is)) (record {
        names_rise = put-rises bucket_total new buckets kept.names_rise;
        keys_rise =
            All-append rises (filter (λ other. is_lt (bucket_cmp other new)) buckets)
            (new ∷ filter (λ other. is_gt (bucket_cmp other new)) buckets)
            (All-filter rises (λ other. is_lt (bucket_cmp other new)) buckets kept.keys_rise)
            (own.rise kept.keys_rise, All-filter rises (λ other. is_gt (bucket_cmp other new)) buckets kept.keys_rise);
        sound = subst IsSound
            (sym (ap database_of (sym own.is) ∙ headed-view (headed place name fallback buckets) refl))
            (Sound-with heading (database_of buckets) good short kept.sound);
      })

length-heads : (buckets : List Bucket) → length (map heading_of buckets) ≡ length buckets
length-heads [] = refl
length-heads (bucket ∷ buckets) = omega (arith, length-heads buckets)

-- how many buckets there are then
pub length-headed : (name : List ℕ) (fallback : Ruling) (buckets : List Bucket) (place : Result ℕ ℕ)
    → IsPlace name buckets place
    → length (with_bucket (record { name = name; fallback = fallback }) (database_of buckets)).buckets
    ≡ (cond (is_ok place) (length buckets) (length buckets + 1))
length-headed name fallback buckets (Ok at) is =
    let none : Bucket = bucket_of name fallback [] in
    let view = headed-view name fallback buckets (Ok at) is (headed (Ok at) name fallback buckets) refl in
    ap (λ (database : Database). length database.buckets) (sym view)
    ∙ length-heads (headed (Ok at) name fallback buckets)
    ∙ length-set buckets at (bucket_of name fallback (get_or buckets at none).policies)
length-headed name fallback buckets (Err at) is =
    let view = headed-view name fallback buckets (Err at) is (headed (Err at) name fallback buckets) refl in
    let belongs = is.absent in
    let total = length-append belongs.front belongs.back in
    let fits : at ≤ length buckets = omega (arith, total, ap length belongs.parts, belongs.length_front) in
    ap (λ (database : Database). length database.buckets) (sym view)
    ∙ length-heads (headed (Err at) name fallback buckets)
    ∙ length-insert buckets at (bucket_of name fallback []) fits

pub has-room : (name : List ℕ) (fallback : Ruling) (buckets : List Bucket) (place : Result ℕ ℕ)
    → IsPlace name buckets place
    → IsKept buckets → (is_ok place || nat_lt (length buckets) most_buckets) ≡ true
    → length (with_bucket (record { name = name; fallback = fallback }) (database_of buckets)).buckets ≤ most_buckets
has-room name fallback buckets (Ok at) is kept room =
    omega (arith, length-headed name fallback buckets (Ok at) is, kept.sound.buckets, length-heads buckets)
has-room name fallback buckets (Err at) is kept room =
    omega (arith, length-headed name fallback buckets (Err at) is, ltb-true (length buckets) most_buckets room)

no-room : (name : List ℕ) (fallback : Ruling) (buckets : List Bucket) (place : Result ℕ ℕ) → IsPlace name buckets place
    → (is_ok place || nat_lt (length buckets) most_buckets) ≡ false
    → most_buckets < length (with_bucket (record { name = name; fallback = fallback }) (database_of buckets)).buckets
no-room name fallback buckets (Ok at) is room = absurd (true≢false room)
no-room name fallback buckets (Err at) is room =
    omega (arith, length-headed name fallback buckets (Err at) is, ltb-false (length buckets) most_buckets room)

-- ---- what is answered

pub heading-accepted : (name : List ℕ) (fallback : Ruling) (database : Database)
    → is_bad (record { name = name; fallback = fallback }) ≡ false
    → length (with_bucket (record { name = name; fallback = fallback }) database).buckets ≤ most_buckets
    → IsSound database
    → fault database (set_bucket name fallback database) ≡ None
heading-accepted name fallback database good short sound =
    let heading : Heading = record { name = name; fallback = fallback } in
    let next = with_bucket heading database in
    let still = Sound-with heading database good short sound in
    ap (λ b. first_of (option_map (λ (bad : Heading). BadKind (record { 0 = bad.fallback.kind }))
    (cond b (Some heading) None) ∷ limit next ∷ cycle next ∷ [])) good
    ∙ ap (λ rule. first_of (rule ∷ cycle next ∷ [])) (limit-sound next still)
    ∙ ap (λ rule. first_of (rule ∷ [])) (cycle-sound next still)

pub heading-limited : (name : List ℕ) (fallback : Ruling) (buckets : List Bucket) (place : Result ℕ ℕ)
    → IsPlace name buckets place
    → (is_ok place || nat_lt (length buckets) most_buckets) ≡ false
    → is_bad (record { name = name; fallback = fallback }) ≡ false
    → fault (database_of buckets) (set_bucket name fallback (database_of buckets)) ≡ Some (Limit Buckets most_buckets)
heading-limited name fallback buckets place is room good =
    let heading : Heading = record { name = name; fallback = fallback } in
    let next = with_bucket heading (database_of buckets) in
    ap (λ b. first_of (option_map (λ (bad : Heading). BadKind (record { 0 = bad.fallback.kind }))
    (cond b (Some heading) None) ∷ limit next ∷ cycle next ∷ [])) good
    ∙ ap (λ b. first_of (cond b (Some (Limit Buckets most_buckets))
    (cond (nat_lt most_policies (length next.policies)) (Some (Limit Policies most_policies)) None) ∷ cycle next ∷ []))
    (lt-ltb most_buckets (length next.buckets) (no-room name fallback buckets place is room))
