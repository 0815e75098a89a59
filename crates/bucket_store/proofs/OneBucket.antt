-- What changes of one bucket make of the buckets.
use Rattle.std.proofs.Common.{◌≡◌, ℕ, ◌+◌, ◌≤◌, Bool, true, false, not, ◌||◌, cond, List, [], ◌∷◌, ◌++◌, length}
use Rattle.std.proofs.Common.{map, get_or, set, None, refl, sym, ap, ◌∙◌, subst, arith}
use Rattle.std.specs.declared.cmp.Ordering.{Ordering}
use Rattle.std.specs.declared.cmp.Ordering.TheVariants.{Less, Equal, Greater}
use Rattle.std.specs.Cmp.{first_so, second_so}
use Rattle.std.specs.List.{AllByRecursion, filter, fold, flat_map, list_all, list_any}
use Rattle.std.specs.Ordering.{is_eq, is_lt, is_gt}
use Rattle.std.proofs.lemmas.Cmp.{nat_list_eq_equiv}
use Rattle.std.proofs.lemmas.List.{set_at, length-append}
use Rattle.std.proofs.Math.Seq.{get_or-append_seam}
use Rattle.cynara_keys.specs.Text.{same_text, text_cmp}
use Rattle.cynara_keys.proofs.Order.{same_text-≡, text_cmp-equal}
use Rattle.bucket_store.specs.Bucket.{Bucket}
use Rattle.bucket_store.specs.Change.{after_change, is_at, with_changes}
use Rattle.bucket_store.specs.Database.{Placed, database_of, placed_of}
use Rattle.bucket_store.specs.Order.{placed_cmp}
use Rattle.bucket_store.specs.Refusal.{fault, set_policies}
use Rattle.bucket_store.specs.WellFormed.{IsKept}
use Rattle.bucket_store.specs.declared.policy_changes.Change.{Change}
use Rattle.bucket_store.specs.declared.policy_changes.Change.TheVariants.{Set, Delete}
use Rattle.bucket_store.specs.parts.Batch.{name_of, is_own, own, edited, changed}
use Rattle.bucket_store.specs.parts.OneBucket.{edited_by, IsOwnPlace, ChangesOne}
use Rattle.bucket_store.proofs.Changing.{untouched}
use Rattle.bucket_store.proofs.Accepting.{flat-after, view-after, kept-after, free-after, accepted-after}

-- ---- the bucket at the place, and the others

own-name : (name other : List ℕ) (change : Change) → is_own name change ≡ true → same_text other name ≡ false
    → is_own other change ≡ false
own-name name other change is apart =
    ap (λ text. same_text text other) (same_text-≡ (name_of change) name is)
    ∙ nat_list_eq_equiv.symm name other ∙ apart

none-own : (name other : List ℕ) (changes : List Change) → list_all (is_own name) changes ≡ true
    → same_text other name ≡ false → list_any (is_own other) changes ≡ false
none-own name other [] all apart = refl
none-own name other (change ∷ changes) all apart =
    ap (λ b. b || list_any (is_own other) changes) (own-name name other change (first_so _ _ all) apart)
    ∙ none-own name other changes (second_so _ _ all) apart

all-own : (name : List ℕ) (changes : List Change) → list_all (is_own name) changes ≡ true → own name changes ≡ changes
all-own name [] all = refl
all-own name (change ∷ changes) all =
    ap (λ b. cond b (change ∷ own name changes) (own name changes)) (first_so _ _ all)
    ∙ ap (λ rest. change ∷ rest) (all-own name changes (second_so _ _ all))

others-stay : (answer : Ordering) (name : List ℕ) (changes : List Change) → is_eq answer ≡ false
    → list_all (is_own name) changes ≡ true → (buckets : List Bucket)
    → AllByRecursion (λ (bucket : Bucket). text_cmp bucket.name name ≡ answer) buckets
    → map (changed changes) buckets ≡ buckets
others-stay answer name changes other all [] apart = refl
others-stay answer name changes other all (bucket ∷ buckets) apart =
    let differs : same_text bucket.name name ≡ false =
    sym (text_cmp-equal bucket.name name) ∙ ap is_eq apart.0 ∙ other in
    λ i. untouched bucket changes (none-own name bucket.name changes all differs) i
    ∷ others-stay answer name changes other all buckets apart.1 i

own-changed : (name : List ℕ) (changes : List Change) (bucket : Bucket) → text_cmp bucket.name name ≡ Equal
    → list_all (is_own name) changes ≡ true → changed changes bucket ≡ edited_by changes bucket
own-changed name changes bucket ties all =
    let same : bucket.name ≡ name =
    same_text-≡ bucket.name name (sym (text_cmp-equal bucket.name name) ∙ ap is_eq ties) in
    let mine : own bucket.name changes ≡ changes = ap (λ text. own text changes) same ∙ all-own name changes all in
    λ i. record { name = bucket.name; fallback = bucket.fallback; policies = fold edited bucket.policies (mine i) }

map-around : (f : Bucket → Bucket) (front : List Bucket) (bucket : Bucket) (back : List Bucket)
    → map f (front ++ bucket ∷ back) ≡ map f front ++ f bucket ∷ map f back
map-around f [] bucket back = refl
map-around f (first ∷ front) bucket back = ap (λ rest. f first ∷ rest) (map-around f front bucket back)

-- the buckets with the one at the place edited are the changed buckets
pub edited-at : (buckets : List Bucket) (changes : List Change) (at : ℕ) (bucket after : Bucket)
    → IsOwnPlace buckets changes at → bucket ≡ get_or buckets at bucket → after ≡ edited_by changes bucket
    → set buckets at after ≡ map (changed changes) buckets
edited-at buckets changes at bucket after place is edit =
    let stands = place.stands in
    let same : bucket ≡ stands.element =
    is ∙ (λ i. get_or (stands.parts i) (sym stands.length_front i) bucket)
    ∙ get_or-append_seam stands.front stands.element stands.back bucket in
    let here : after ≡ changed changes stands.element =
    edit ∙ ap (edited_by changes) same ∙ sym (own-changed place.name changes stands.element stands.ties place.own) in
    let before = others-stay Less place.name changes refl place.own stands.front stands.before in
    let behind = others-stay Greater place.name changes refl place.own stands.back stands.behind in
    ap (λ list. set list at after) stands.parts
    ∙ set_at stands.front stands.element stands.back after at stands.length_front
    ∙ sym (ap (map (changed changes)) stands.parts
    ∙ map-around (changed changes) stands.front stands.element stands.back
    ∙ (λ i. before i ++ sym here i ∷ behind i))

-- ---- how many policies there are

fewer : {X : Type 0} (test : X → Bool) (xs : List X) → length (filter test xs) ≤ length xs
fewer test [] = omega arith
fewer test (x ∷ xs) = step (test x) (fewer test xs)
  where
    step : (passes : Bool) → length (filter test xs) ≤ length xs
        → length (cond passes (x ∷ filter test xs) (filter test xs)) ≤ length (x ∷ xs)
    step true less = omega arith
    step false less = omega arith

parted : {X : Type 0} (answer : X → Ordering) (xs : List X)
    → length (filter (λ x. is_lt (answer x)) xs) + length (filter (λ x. is_gt (answer x)) xs) ≤ length xs
parted answer [] = omega arith
parted answer (x ∷ xs) = step (answer x) (parted answer xs)
  where
    step : (is : Ordering)
        → length (filter (λ x. is_lt (answer x)) xs) + length (filter (λ x. is_gt (answer x)) xs) ≤ length xs
        → length (cond (is_lt is) (x ∷ filter (λ x. is_lt (answer x)) xs) (filter (λ x. is_lt (answer x)) xs))
        + length (cond (is_gt is) (x ∷ filter (λ x. is_gt (answer x)) xs) (filter (λ x. is_gt (answer x)) xs))
        ≤ length (x ∷ xs)
    step Less less = omega arith
    step Equal less = omega arith
    step Greater less = omega arith

one-more : (policies : List Placed) (change : Change) → length (after_change policies change) ≤ length policies + 1
one-more policies (Set name key result) =
    let new : Placed = record { bucket = name; policy = record { key = key; result = result } } in
    let front = filter (λ other. is_lt (placed_cmp other new)) policies in
    let back = filter (λ other. is_gt (placed_cmp other new)) policies in
    let total = length-append front (new ∷ back) in
    let parts = parted (λ other. placed_cmp other new) policies in
    omega (arith, total, parts)
one-more policies (Delete name key) =
    let less = fewer (λ placed. not (is_at name key placed)) policies in omega (arith, less)

pub no-more : (policies : List Placed) (changes : List Change)
    → length (fold after_change policies changes) ≤ length policies + length changes
no-more policies [] = omega arith
no-more policies (change ∷ changes) =
    let rest = no-more (after_change policies change) changes in
    let one = one-more policies change in
    omega (arith, rest, one)

-- ---- the database after the changes

module _ (buckets : List Bucket) (changes : List Change) (at : ℕ) (kept : IsKept buckets)
    (one : ChangesOne buckets changes at) where
  kept-changed : IsKept (map (changed changes) buckets)
  kept-changed =
      let flat = flat-after changes buckets kept one.named in
      let most = no-more (flat_map placed_of buckets) changes in
      let same = ap length flat in
      kept-after changes buckets kept one.named (omega (arith, same, most, one.short))
      (free-after changes buckets kept one.named one.unlinked)

  module _ (bucket after : Bucket) (is : bucket ≡ get_or buckets at bucket)
      (edit : after ≡ edited_by changes bucket) where
    whole : set buckets at after ≡ map (changed changes) buckets
    whole = edited-at buckets changes at bucket after one.place is edit

    pub kept-edited : IsKept (set buckets at after)
    kept-edited = subst IsKept (sym whole) kept-changed

    pub view-edited : database_of (set buckets at after) ≡ with_changes changes (database_of buckets)
    view-edited = ap database_of whole ∙ view-after changes buckets kept one.named

  pub accepted-edited : fault (database_of buckets) (set_policies changes (database_of buckets)) ≡ None
  accepted-edited = accepted-after changes buckets kept one.named kept-changed
