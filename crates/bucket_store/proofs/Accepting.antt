-- When a list of changes is accepted.
use Rattle.std.proofs.Common.{◌≡◌, ℕ, ◌+◌, ◌<◌, ◌≤◌, suc, Bool, true, false, not, cond, nat_lt, eqb, List, [], ◌∷◌}
use Rattle.std.proofs.Common.{◌++◌, length, map, get_or, take, drop, Option, Some, None, refl, sym, ap, ◌∙◌, subst}
use Rattle.std.proofs.Common.{append-nil}
use Rattle.std.specs.Option.{option_map}
use Rattle.std.specs.Ordering.{is_lt, is_gt}
use Rattle.std.specs.List.{AllByRecursion, filter, list_any, flat_map, fold, find, Contains}
use Rattle.std.specs.List.Sorted.{IsStrictlySortedBy}
use Rattle.std.proofs.lemmas.Bool.{true≢false, or_parts, le-ltb}
use Rattle.std.proofs.lemmas.List.{take_more, take-append-drop}
use Rattle.std.proofs.lemmas.List.Elements.{All-from_recursion, recursion_from_All, All-contains, All-contains_itself}
use Rattle.std.proofs.Math.Seq.{drop-cons}
use Rattle.std.proofs.lemmas.Grind.{flat_map-append}
use Rattle.cynara_keys.specs.PolicyResult.{bucket}
use Rattle.cynara_keys.specs.declared.limits.Counted.TheVariants.{Buckets, Policies}
use Rattle.bucket_store.specs.Bucket.{Bucket}
use Rattle.bucket_store.specs.Database.{Placed, Database, has_bucket, heading_of, placed_of, database_of}
use Rattle.bucket_store.specs.Order.{bucket_cmp, placed_cmp}
use Rattle.bucket_store.specs.Walk.{points}
use Rattle.bucket_store.specs.Change.{after_change, is_at, with_changes}
use Rattle.bucket_store.specs.Refusal.{no_bucket, named_by, limit, cycle, first_of, fault, Refuses, set_policies}
use Rattle.bucket_store.specs.Refusal.{most_buckets, most_policies}
use Rattle.bucket_store.specs.WellFormed.{IsRooted, IsSound, IsKept}
use Rattle.bucket_store.specs.parts.Naming.{NamesFirst, NamesCycle}
use Rattle.bucket_store.specs.parts.Batch.{name_of, is_link, changed}
use Rattle.bucket_store.specs.parts.Ending.{ChangeEnds, LinkEnds}
use Rattle.bucket_store.specs.declared.policy_changes.Change.{Change}
use Rattle.bucket_store.specs.declared.policy_changes.Change.TheVariants.{Set, Delete}
use Rattle.bucket_store.specs.declared.refusals.StoreRefusal.{StoreRefusal}
use Rattle.bucket_store.specs.declared.refusals.StoreRefusal.TheVariants.{NoBucket, RootBucket, BadKind, Limit, Cycle}
use Rattle.bucket_store.specs.declared.refusals.StoreRefusal.TheVariants.{Memory}
use Rattle.bucket_store.proofs.Lists.{All-weaker, All-append, All-filter}
use Rattle.bucket_store.proofs.Sound.{limit-sound, cycle-sound}
use Rattle.bucket_store.proofs.Walks.{NoCycle, NoCycle-tested, tested-NoCycle, NoCycle-fewer}
use Rattle.bucket_store.proofs.PutLinks.{Comes, comes-all, comes-itself, old-walk, put-ends}
use Rattle.bucket_store.proofs.Changing.{AreThere, flat-changed, headings-changed, keys-changed, names-changed}

-- ---- the first bucket that is not there

either : Option StoreRefusal → Option StoreRefusal → Option StoreRefusal
either None other = other
either (Some refusal) other = Some refusal

no_bucket-append : (database : Database) (xs ys : List (List ℕ))
    → no_bucket (xs ++ ys) database ≡ either (no_bucket xs database) (no_bucket ys database)
unfolding either
no_bucket-append database [] ys = refl
no_bucket-append database (x ∷ xs) ys = parts (not (has_bucket x database)) (no_bucket-append database xs ys)
  where
    parts : (gone : Bool) → no_bucket (xs ++ ys) database ≡ either (no_bucket xs database) (no_bucket ys database)
        → option_map (λ name. NoBucket name)
        (cond gone (Some x) (find (λ name. not (has_bucket name database)) (xs ++ ys)))
        ≡ either (option_map (λ name. NoBucket name)
        (cond gone (Some x) (find (λ name. not (has_bucket name database)) xs))) (no_bucket ys database)
    parts true rest = refl
    parts false rest = rest

either-none : (one other : Option StoreRefusal) → either one other ≡ None → (one ≡ None) × (other ≡ None)
unfolding either
either-none None other none = (refl, none)
either-none (Some refusal) other none = cc

either-none-of : (one other : Option StoreRefusal) → one ≡ None → other ≡ None → either one other ≡ None
unfolding either
either-none-of None other none more = more
either-none-of (Some refusal) other none more = none

pub none-more : (database : Database) (xs ys : List (List ℕ)) → no_bucket xs database ≡ None
    → no_bucket ys database ≡ None
    → no_bucket (xs ++ ys) database ≡ None
none-more database xs ys none more =
    no_bucket-append database xs ys ∙ either-none-of (no_bucket xs database) (no_bucket ys database) none more

first-some : (database : Database) (xs ys zs : List (List ℕ)) (refusal : StoreRefusal) → no_bucket xs database ≡ None
    → no_bucket ys database ≡ Some refusal → no_bucket (xs ++ (ys ++ zs)) database ≡ Some refusal
unfolding either
first-some database xs ys zs refusal none some =
    no_bucket-append database xs (ys ++ zs)
    ∙ ap (λ one. either one (no_bucket (ys ++ zs) database)) none
    ∙ no_bucket-append database ys zs ∙ ap (λ one. either one (no_bucket zs database)) some

pub first-named : (database : Database) (xs ys zs : List (List ℕ)) (refusal : StoreRefusal)
    → no_bucket xs database ≡ None
    → NamesFirst ys database refusal → NamesFirst (xs ++ (ys ++ zs)) database refusal
first-named database xs ys zs (NoBucket name) none some = first-some database xs ys zs (NoBucket name) none some
first-named database xs ys zs RootBucket none some = first-some database xs ys zs RootBucket none some
first-named database xs ys zs (BadKind kind) none some = first-some database xs ys zs (BadKind kind) none some
first-named database xs ys zs (Limit counted most) none some =
    first-some database xs ys zs (Limit counted most) none some
first-named database xs ys zs (Cycle name) none some = first-some database xs ys zs (Cycle name) none some
first-named database xs ys zs (Memory error) none some = tt

-- the names of all changes, around those of one
pub names-around : (changes : List Change) (i : ℕ) (change : Change) → i < length changes
    → change ≡ get_or changes i change
    → flat_map named_by changes ≡ flat_map named_by (take i changes)
    ++ (named_by change ++ flat_map named_by (drop (suc i) changes))
names-around changes i change lt is =
    ap (flat_map named_by) (sym (take-append-drop i changes))
    ∙ flat_map-append named_by (take i changes) (drop i changes)
    ∙ ap (λ rest. flat_map named_by (take i changes) ++ flat_map named_by rest)
    (drop-cons changes i change lt ∙ ap (λ one. one ∷ drop (suc i) changes) (sym is))

pub names-more : (changes : List Change) (i : ℕ) (change : Change) → i < length changes
    → change ≡ get_or changes i change
    → flat_map named_by (take (i + 1) changes) ≡ flat_map named_by (take i changes) ++ named_by change
names-more changes i change lt is =
    ap (flat_map named_by) (take_more changes i change lt ∙ ap (λ one. take i changes ++ one ∷ []) (sym is))
    ∙ flat_map-append named_by (take i changes) (change ∷ [])
    ∙ ap (λ rest. flat_map named_by (take i changes) ++ rest) (append-nil (named_by change))

-- ---- what all buckets being there gives

-- a change's own bucket, and the one that its policy points to
pub record IsNamed (database : Database) (change : Change) : Type 0 where
  pub own : has_bucket (name_of change) database ≡ true
  pub aims : no_bucket (named_by change) database ≡ None

has-none : (database : Database) (name : List ℕ) (rest : List (List ℕ)) → no_bucket (name ∷ rest) database ≡ None
    → (has_bucket name database ≡ true) × (no_bucket rest database ≡ None)
has-none database name rest none = parts (has_bucket name database) none
  where
    parts : (has : Bool)
        → option_map (λ name. NoBucket name)
        (cond (not has) (Some name) (find (λ name. not (has_bucket name database)) rest)) ≡ None
        → (has ≡ true) × (no_bucket rest database ≡ None)
    parts true none = (refl, none)
    parts false none = cc

named-one : (database : Database) (change : Change) → no_bucket (named_by change) database ≡ None
    → IsNamed database change
named-one database (Delete name key) none = record { own = (has-none database name [] none).0; aims = none }
named-one database (Set name key result) none = record { own = parts (eqb result.kind bucket) none; aims = none }
  where
    parts : (links : Bool) → no_bucket (cond links (name ∷ result.metadata ∷ []) (name ∷ [])) database ≡ None
        → has_bucket name database ≡ true
    parts true none = (has-none database name (result.metadata ∷ []) none).0
    parts false none = (has-none database name [] none).0

named-all : (database : Database) (changes : List Change) → no_bucket (flat_map named_by changes) database ≡ None
    → AllByRecursion (IsNamed database) changes
named-all database [] none = tt
named-all database (change ∷ changes) none =
    let parts =
    either-none (no_bucket (named_by change) database) (no_bucket (flat_map named_by changes) database)
    (sym (no_bucket-append database (named_by change) (flat_map named_by changes)) ∙ none) in
    (named-one database change parts.0, named-all database changes parts.1)

pub all-there : (database : Database) (changes : List Change) → no_bucket (flat_map named_by changes) database ≡ None
    → AreThere database changes
all-there database changes none =
    All-weaker (IsNamed database) (λ change. has_bucket (name_of change) database ≡ true) (λ change is. is.own) changes
    (named-all database changes none)

rooted-one : (database : Database) (policies : List Placed) (change : Change) → IsNamed database change
    → AllByRecursion (IsRooted database) policies → AllByRecursion (IsRooted database) (after_change policies change)
rooted-one database policies (Delete name key) is all =
    All-filter (IsRooted database) (λ placed. not (is_at name key placed)) policies all
rooted-one database policies (Set name key result) is all =
    let new : Placed = record { bucket = name; policy = record { key = key; result = result } } in
    All-append (IsRooted database) (filter (λ other. is_lt (placed_cmp other new)) policies)
    (new ∷ filter (λ other. is_gt (placed_cmp other new)) policies)
    (All-filter (IsRooted database) (λ other. is_lt (placed_cmp other new)) policies all) (
      record {
        own = is.own;
        target = λ links.
            (has-none database result.metadata []
            (has-none database name (result.metadata ∷ [])
            (sym (ap (λ b. no_bucket (cond b (name ∷ result.metadata ∷ []) (name ∷ [])) database) links)
            ∙ is.aims)).1).0;
      },
      All-filter (IsRooted database) (λ other. is_gt (placed_cmp other new)) policies all,
    )

pub rooted-all : (database : Database) (policies : List Placed) (changes : List Change)
    → AllByRecursion (IsNamed database) changes
    → AllByRecursion (IsRooted database) policies
    → AllByRecursion (IsRooted database) (fold after_change policies changes)
rooted-all database policies [] named all = all
rooted-all database policies (change ∷ changes) named all =
    rooted-all database (after_change policies change) changes named.1 (rooted-one database policies change named.0 all)

-- ---- changes that put no policy that points to a bucket

abbrev Known : List Placed → Placed → Type 0
Known policies placed = points placed.policy ≡ true → Contains policies placed

known-one : (old policies : List Placed) (change : Change) → is_link change ≡ false
    → AllByRecursion (Known old) policies
    → AllByRecursion (Known old) (after_change policies change)
known-one old policies (Delete name key) none all =
    All-filter (Known old) (λ placed. not (is_at name key placed)) policies all
known-one old policies (Set name key result) none all =
    let new : Placed = record { bucket = name; policy = record { key = key; result = result } } in
    All-append (Known old) (filter (λ other. is_lt (placed_cmp other new)) policies)
    (new ∷ filter (λ other. is_gt (placed_cmp other new)) policies)
    (All-filter (Known old) (λ other. is_lt (placed_cmp other new)) policies all) (
      (λ links. absurd (true≢false (sym links ∙ none))),
      All-filter (Known old) (λ other. is_gt (placed_cmp other new)) policies all,
    )

known-all : (old policies : List Placed) (changes : List Change) → list_any is_link changes ≡ false
    → AllByRecursion (Known old) policies
    → AllByRecursion (Known old) (fold after_change policies changes)
known-all old policies [] none all = all
known-all old policies (change ∷ changes) none all =
    let parts = or_parts (is_link change) (list_any is_link changes) none in
    known-all old (after_change policies change) changes parts.1 (known-one old policies change parts.0 all)

known-itself : (policies : List Placed) → AllByRecursion (Known policies) policies
known-itself policies =
    All-weaker (Contains policies) (Known policies) (λ placed there links. there) policies
    (recursion_from_All (Contains policies) policies (All-contains_itself policies))

pub no-new-cycle : (policies : List Placed) (changes : List Change) → list_any is_link changes ≡ false
    → NoCycle policies
    → NoCycle (fold after_change policies changes)
no-new-cycle policies changes none free =
    NoCycle-fewer (fold after_change policies changes) policies
    (λ step there links. All-contains (Known policies) (fold after_change policies changes) step
    (All-from_recursion (Known policies) (fold after_change policies changes)
    (known-all policies policies changes none (known-itself policies)))
    there links) free

-- ---- the database after the changes

pub Sound-changed : (database : Database) (changes : List Change)
    → no_bucket (flat_map named_by changes) database ≡ None
    → length (fold after_change database.policies changes) ≤ most_policies
    → NoCycle (fold after_change database.policies changes)
    → IsSound database → IsSound (with_changes changes database)
Sound-changed database changes none short free sound = record {
  root = sound.root;
  fallbacks = sound.fallbacks;
  rooted =
      All-weaker (IsRooted database) (IsRooted (with_changes changes database))
      (λ placed is. record { own = is.own; target = is.target }) (fold after_change database.policies changes)
      (rooted-all database database.policies changes (named-all database changes none) sound.rooted);
  buckets = sound.buckets;
  policies = short;
  no_cycle = tested-NoCycle (with_changes changes database) free;
}

-- what the rooted policies of the changed buckets need before it is known that there is no cycle
pub rooted-changed : (database : Database) (changes : List Change)
    → no_bucket (flat_map named_by changes) database ≡ None
    → IsSound database → AllByRecursion (IsRooted (with_changes changes database))
    (fold after_change database.policies changes)
rooted-changed database changes none sound =
    All-weaker (IsRooted database) (IsRooted (with_changes changes database))
    (λ placed is. record { own = is.own; target = is.target }) (fold after_change database.policies changes)
    (rooted-all database database.policies changes (named-all database changes none) sound.rooted)

module _ (changes : List Change) (buckets : List Bucket) (kept : IsKept buckets)
    (none : no_bucket (flat_map named_by changes) (database_of buckets) ≡ None) where
  pub flat-after : flat_map placed_of (map (changed changes) buckets) ≡ fold after_change (flat_map placed_of buckets)
      changes
  flat-after = flat-changed changes buckets kept.names_rise kept.keys_rise
      (all-there (database_of buckets) changes none)

  pub view-after : database_of (map (changed changes) buckets) ≡ with_changes changes (database_of buckets)
  view-after = λ i. record { buckets = headings-changed changes buckets i; policies = flat-after i }

  pub names-after : IsStrictlySortedBy bucket_cmp (map (changed changes) buckets)
  names-after = names-changed changes buckets kept.names_rise

  pub rooted-after : AllByRecursion (IsRooted (database_of (map (changed changes) buckets)))
      (flat_map placed_of (map (changed changes) buckets))
  rooted-after =
      subst (λ (database : Database). AllByRecursion (IsRooted database) database.policies) (sym view-after)
      (rooted-changed (database_of buckets) changes none kept.sound)

  pub kept-after : length (flat_map placed_of (map (changed changes) buckets)) ≤ most_policies
      → NoCycle (flat_map placed_of (map (changed changes) buckets)) → IsKept (map (changed changes) buckets)
  kept-after short free = record {
    names_rise = names-after;
    keys_rise = keys-changed changes buckets kept.keys_rise;
    sound =
        subst IsSound (sym view-after)
        (Sound-changed (database_of buckets) changes none (subst (λ list. length list ≤ most_policies) flat-after short)
        (subst NoCycle flat-after free) kept.sound);
  }

  pub free-after : list_any is_link changes ≡ false → NoCycle (flat_map placed_of (map (changed changes) buckets))
  free-after links =
      subst NoCycle (sym flat-after)
      (no-new-cycle (flat_map placed_of buckets) changes links
      (NoCycle-tested (database_of buckets) kept.sound.rooted kept.sound.no_cycle))

  pub free-linked : AllByRecursion (ChangeEnds (map (changed changes) buckets)) changes
      → NoCycle (flat_map placed_of (map (changed changes) buckets))
  free-linked ends name lead =
      let next = map (changed changes) buckets in
      let old = flat_map placed_of buckets in
      let comes =
      subst (AllByRecursion (Comes (LinkEnds next) old)) (sym flat-after)
      (comes-all (LinkEnds next) old old changes (put-ends next changes ends) (comes-itself (LinkEnds next) old)) in
      NoCycle-tested (database_of buckets) kept.sound.rooted kept.sound.no_cycle name
      (record {
        first = lead.first;
        others = lead.others;
        walks = old-walk next names-after old comes name (lead.first ∷ lead.others) name lead.walks lead.ends lead;
        ends = lead.ends;
      })

  pub accepted-after : IsKept (map (changed changes) buckets)
      → fault (database_of buckets) (set_policies changes (database_of buckets)) ≡ None
  accepted-after now =
      let next = with_changes changes (database_of buckets) in
      let sound = subst IsSound view-after now.sound in
      ap (λ rule. first_of (rule ∷ None ∷ None ∷ limit next ∷ cycle next ∷ [])) none
      ∙ ap (λ rule. first_of (rule ∷ cycle next ∷ [])) (limit-sound next sound)
      ∙ ap (λ rule. first_of (rule ∷ [])) (cycle-sound next sound)

  few-buckets : nat_lt most_buckets (length (map heading_of buckets)) ≡ false
  few-buckets = le-ltb most_buckets (length (map heading_of buckets)) kept.sound.buckets

  pub limited-after : nat_lt most_policies (length (flat_map placed_of (map (changed changes) buckets))) ≡ true
      → fault (database_of buckets) (set_policies changes (database_of buckets)) ≡ Some (Limit Policies most_policies)
  limited-after over =
      let next = with_changes changes (database_of buckets) in
      ap (λ rule. first_of (rule ∷ None ∷ None ∷ limit next ∷ cycle next ∷ [])) none
      ∙ ap (λ b. first_of (cond b (Some (Limit Buckets most_buckets))
      (cond (nat_lt most_policies (length next.policies)) (Some (Limit Policies most_policies)) None)
      ∷ cycle next ∷ [])) few-buckets
      ∙ ap (λ b. first_of (cond b (Some (Limit Policies most_policies)) None ∷ cycle next ∷ []))
      (ap (λ list. nat_lt most_policies (length list)) (sym flat-after) ∙ over)

  pub cycle-after : nat_lt most_policies (length (flat_map placed_of (map (changed changes) buckets))) ≡ false
      → (name : List ℕ)
      → cycle (database_of (map (changed changes) buckets)) ≡ Some (Cycle name)
      → fault (database_of buckets) (set_policies changes (database_of buckets)) ≡ Some (Cycle name)
  cycle-after over name on =
      let next = with_changes changes (database_of buckets) in
      ap (λ rule. first_of (rule ∷ None ∷ None ∷ limit next ∷ cycle next ∷ [])) none
      ∙ ap (λ b. first_of (cond b (Some (Limit Buckets most_buckets))
      (cond (nat_lt most_policies (length next.policies)) (Some (Limit Policies most_policies)) None)
      ∷ cycle next ∷ [])) few-buckets
      ∙ ap (λ b. first_of (cond b (Some (Limit Policies most_policies)) None ∷ cycle next ∷ []))
      (ap (λ list. nat_lt most_policies (length list)) (sym flat-after) ∙ over)
      ∙ ap (λ rule. first_of (rule ∷ [])) (ap cycle (sym view-after) ∙ on)

-- what the refusal of a bucket on a cycle says
pub refuses-cycle : (database : Database) (changes : List Change) (name : List ℕ) (refusal : StoreRefusal)
    → fault database (set_policies changes database) ≡ Some (Cycle name) → NamesCycle name refusal
    → Refuses database (set_policies changes database) refusal
refuses-cycle database changes name (NoBucket other) on named = on ∙ ap Some (sym named)
refuses-cycle database changes name RootBucket on named = on ∙ ap Some (sym named)
refuses-cycle database changes name (BadKind kind) on named = on ∙ ap Some (sym named)
refuses-cycle database changes name (Limit counted most) on named = on ∙ ap Some (sym named)
refuses-cycle database changes name (Cycle other) on named = on ∙ ap Some (sym named)
refuses-cycle database changes name (Memory error) on named = (refl, refl)
