-- How numbers of texts are found, and how tables are made.
use Rattle.std.proofs.Common.{◌≡◌, ℕ, ◌+◌, ◌<◌, ◌≤◌, ◌==◌, ◌++◌, Bool, true, false, not, cond, zero, suc, List, [], ◌∷◌, length, map}
use Rattle.std.proofs.Common.{nat_lt, slice_get, Option, None, Some, IfSome, is_some, refl, sym, ap, ◌∙◌, subst, arith, inl, inr}
use Rattle.std.specs.List.{position, position_or_len}
use Rattle.std.specs.Option.{option_map}
use Rattle.std.proofs.Math.ListN.{set}
use Rattle.std.proofs.lemmas.Bool.{cases_eq, cases_lt, eqb-true, eq-eqb, false≢true, ne_eqb}
use Rattle.std.proofs.lemmas.List.{length-map}
use Rattle.std.proofs.lemmas.Option.{same_Some, slice_get-map, slice_get_within}
use Rattle.cynara_keys.specs.PolicyResult.{Ruling}
use Rattle.cynara_keys.specs.declared.keys.Policy.{Policy}
use Rattle.bucket_store.specs.Bucket.{Bucket}
use Rattle.bucket_store.specs.Database.{Database, Heading, database_of, heading_of}
use Rattle.bucket_store.specs.WellFormed.{IsKept}
use Rattle.bucket_eval.specs.Evaluation.{policies_of}
use Rattle.bucket_eval.specs.declared.sheets.Filed.{Filed}
use Rattle.bucket_eval.specs.declared.sheets.Sheet.{Sheet}
use Rattle.bucket_eval.specs.parts.Numbers.{HasMark, IsMarked, IsTable, IsTableTo, KeepsNumbers, mark_of}
use Rattle.bucket_eval.specs.parts.Shapes.{shape_of}
use Rattle.bucket_eval.specs.parts.Sheets.{AreFiled, AreNext, AreSheets, AreSheetsOf, EachIsSheet, IsFiled, IsGap, IsNextOf, IsShaped, IsShapedTo, IsSheetAt, IsSheetOf, PointsTo, TargetIs, TargetsAt, filed_in, places_by}
use Rattle.bucket_eval.proofs.Buckets.{policies_of-at}
use Rattle.bucket_eval.proofs.Known.{get-set-other}
use Rattle.bucket_eval.proofs.Marks.{mark-kept}

-- ---- numbers

position_or_len-map : {X Y : Type 0} (f : X → Y) (p : Y → Bool) (xs : List X)
    → position_or_len p (map f xs) ≡ position_or_len (λ x. p (f x)) xs
position_or_len-map f p [] = refl
position_or_len-map f p (x ∷ xs) = ap (λ n. cond (not (p (f x))) (1 + n) 0) (position_or_len-map f p xs)

pub position-map : {X Y : Type 0} (f : X → Y) (p : Y → Bool) (xs : List X)
    → position p (map f xs) ≡ position (λ x. p (f x)) xs
position-map f p xs =
    let place : position_or_len p (map f xs) ≡ position_or_len (λ x. p (f x)) xs = position_or_len-map f p xs in
    let count : length (map f xs) ≡ length xs = length-map xs f in
    λ i. cond (nat_lt (place i) (count i)) (Some (place i)) None

-- ---- tables

module _ (names : List (List ℕ)) (policies : List Policy) where
  pub table-all : (places : ℕ → Option ℕ) (count : ℕ) → length policies ≤ count → IsTableTo names policies places count
      → IsTable names policies places
  table-all places count all table = record {
    sound = table.sound;
    complete = λ place policy is.
        let within = slice_get_within policies place policy is in
        table.complete place policy (omega (arith, within)) is;
  }

  module _ (old new : ℕ → Option ℕ) (mark at : ℕ) (policy : Policy) (there : slice_get policies at ≡ Some policy)
      (marked : mark_of names policy.key ≡ Some mark)
      (puts : (other : ℕ) → new other ≡ cond (other == mark) (Some at) (old other)) where
    put-sound : ((other place : ℕ) → old other ≡ Some place → HasMark names policies other place)
        → (other place : ℕ) (same : Bool) → (other == mark) ≡ same → cond same (Some at) (old other) ≡ Some place
        → HasMark names policies other place
    put-sound sound other place true is found =
        let own : mark ≡ other = sym (eqb-true other mark is) in
        let here : at ≡ place = same_Some _ _ found in
        subst (λ m. HasMark names policies m place) own
        (subst (λ k. HasMark names policies mark k) here
        (record { policy = policy; there = there; is = marked }))
    put-sound sound other place false is found = sound other place found

    kept-leads : (other : ℕ) (same : Bool) → is_some (old other) ≡ true → is_some (cond same (Some at) (old other)) ≡ true
    kept-leads other true leads = refl
    kept-leads other false leads = leads

    pub table-more : IsTableTo names policies old at → IsTableTo names policies new (at + 1)
    table-more table = record {
      sound = λ other place is. put-sound table.sound other place (other == mark) refl (sym (puts other) ∙ is);
      complete = λ place other less is. elim (cases_lt place at) [
        | inl before ↦
            (let kept = table.complete place other before is in
            record {
              mark = kept.mark;
              is = kept.is;
              leads = ap is_some (puts kept.mark) ∙ kept-leads kept.mark (kept.mark == mark) kept.leads;
            })
        | inr from ↦
            (let here : at ≡ place = omega arith in
            let same : policy ≡ other = same_Some _ _ (sym there ∙ ap (slice_get policies) here ∙ is) in
            subst (IsMarked names new) same
            (record {
              mark = mark;
              is = marked;
              leads = ap is_some (puts mark) ∙ ap (λ b. is_some (cond b (Some at) (old mark))) (eq-eqb mark mark refl);
            }))
      ];
    }

-- ---- shapes

set-stays : (shapes : List Bool) (at k : ℕ) → slice_get (set shapes at true) k ≡ Some false
    → slice_get shapes k ≡ Some false
set-stays [] at k is = is
set-stays (shape ∷ shapes) zero zero is = cc
set-stays (shape ∷ shapes) zero (suc k) is = is
set-stays (shape ∷ shapes) (suc at) zero is = is
set-stays (shape ∷ shapes) (suc at) (suc k) is = set-stays shapes at k is

set-there : (shapes : List Bool) (at : ℕ) → slice_get (set shapes at true) at ≡ Some false → ⊥
set-there [] at is = cc
set-there (shape ∷ shapes) zero is = cc
set-there (shape ∷ shapes) (suc at) is = set-there shapes at is

pub shaped-more : (policies : List Policy) (shapes : List Bool) (at : ℕ) (policy : Policy)
    → slice_get policies at ≡ Some policy → IsShapedTo policies shapes at
    → IsShapedTo policies (set shapes (shape_of policy.key) true) (at + 1)
shaped-more policies shapes at policy there shaped = λ place other less other_there lacks.
    elim (cases_lt place at) [
      | inl before ↦
          shaped place other before other_there (set-stays shapes (shape_of policy.key) (shape_of other.key) lacks)
      | inr from ↦
          (let here : at ≡ place = omega arith in
          let same : policy ≡ other = same_Some _ _ (sym there ∙ ap (slice_get policies) here ∙ other_there) in
          set-there shapes (shape_of policy.key)
          (ap (λ (p : Policy). slice_get (set shapes (shape_of policy.key) true) (shape_of p.key)) same ∙ lacks))
    ]

pub shaped-all : (policies : List Policy) (shapes : List Bool) (count : ℕ) → length policies ≤ count
    → IsShapedTo policies shapes count → IsShaped policies shapes
shaped-all policies shapes count all shaped = λ place policy there.
    let within = slice_get_within policies place policy there in
    shaped place policy (omega (arith, within)) there

-- ---- the tables of all buckets

get-append : {X : Type 0} (xs : List X) (x : X) (k : ℕ) → k < length xs → slice_get (xs ++ x ∷ []) k ≡ slice_get xs k
get-append [] x k less = absurd (omega arith)
get-append (y ∷ xs) x zero less = refl
get-append (y ∷ xs) x (suc k) less = get-append xs x k (omega arith)

get-last : {X : Type 0} (xs : List X) (x : X) (k : ℕ) → k ≡ length xs → slice_get (xs ++ x ∷ []) k ≡ Some x
get-last [] x zero is = refl
get-last [] x (suc k) is = absurd (omega arith)
get-last (y ∷ xs) x zero is = absurd (omega arith)
get-last (y ∷ xs) x (suc k) is = get-last xs x k (omega arith)

get-past : {X : Type 0} (xs : List X) (x : X) (k : ℕ) → length xs < k → slice_get (xs ++ x ∷ []) k ≡ None
get-past [] x zero past = absurd (omega arith)
get-past [] x (suc k) past = refl
get-past (y ∷ xs) x zero past = absurd (omega arith)
get-past (y ∷ xs) x (suc k) past = get-past xs x k (omega arith)

pub sheets-more : (names : List (List ℕ)) (buckets : List Bucket) (sheets : List Sheet) (sheet : Sheet) (at : ℕ)
    → EachIsSheet names buckets sheets → at ≡ length sheets → IsSheetAt names buckets at sheet
    → EachIsSheet names buckets (sheets ++ sheet ∷ [])
sheets-more names buckets sheets sheet at are here is = λ k other own other_there own_there.
    elim (cases_lt k at) [
      | inl before ↦
          are k other own other_there (sym (get-append sheets sheet k (omega (arith, before, here))) ∙ own_there)
      | inr from ↦ elim (cases_lt at k) [
        | inl past ↦
            (let no : None ≡ Some own = sym (get-past sheets sheet k (omega (arith, past, here))) ∙ own_there in cc)
        | inr upto ↦
            (let at_k : k ≡ at = omega arith in
            let made : sheet ≡ own = same_Some _ _ (sym (get-last sheets sheet k (at_k ∙ here)) ∙ own_there) in
            subst (λ (s : Sheet). IsSheetOf names buckets other s) made
            (is other (ap (slice_get buckets) (sym at_k) ∙ other_there)))
      ]
    ]

-- the same while names are given numbers
module _ (old new : List (List ℕ)) (kept : KeepsNumbers old new) where
  has-kept : (policies : List Policy) (mark place : ℕ) → HasMark old policies mark place → HasMark new policies mark place
  has-kept policies mark place has =
      record { policy = has.policy; there = has.there; is = mark-kept old new has.policy.key mark kept has.is }

  is-kept : (places : ℕ → Option ℕ) (policy : Policy) → IsMarked old places policy → IsMarked new places policy
  is-kept places policy marked =
      record { mark = marked.mark; is = mark-kept old new policy.key marked.mark kept marked.is; leads = marked.leads }

  pub table-kept : (policies : List Policy) (places : ℕ → Option ℕ) (count : ℕ) → IsTableTo old policies places count
      → IsTableTo new policies places count
  table-kept policies places count table = record {
    sound = λ mark place is. has-kept policies mark place (table.sound mark place is);
    complete = λ place policy less there. is-kept places policy (table.complete place policy less there);
  }

  sheet-kept : (buckets : List Bucket) (bucket : Bucket) (sheet : Sheet) → IsSheetOf old buckets bucket sheet
      → IsSheetOf new buckets bucket sheet
  sheet-kept buckets bucket sheet is = record {
    marked = record {
      sound = λ mark place found. has-kept bucket.policies mark place (is.marked.sound mark place found);
      complete = λ place policy there.
          is-kept (places_by (filed_in sheet)) policy (is.marked.complete place policy there);
    };
    filed = is.filed;
    gaps = is.gaps;
    fallback = is.fallback;
  }

  pub sheets-kept : (buckets : List Bucket) (sheets : List Sheet) → EachIsSheet old buckets sheets
      → EachIsSheet new buckets sheets
  sheets-kept buckets sheets each = λ at bucket sheet there sheet_there.
      sheet-kept buckets bucket sheet (each at bucket sheet there sheet_there)

pub numbers-more : (old between new : List (List ℕ)) → KeepsNumbers old between → KeepsNumbers between new
    → KeepsNumbers old new
numbers-more old between new one two = λ text number is. two text number (one text number is)

-- a bucket at the same place of another list that is seen as the same database
record Twin (buckets : List Bucket) (at : ℕ) (bucket : Bucket) : Type 0 where
  other : Bucket
  there : slice_get buckets at ≡ Some other
  policies : other.policies ≡ bucket.policies
  name : other.name ≡ bucket.name
  fallback : other.fallback ≡ bucket.fallback

heading-at : (buckets : List Bucket) (at : ℕ) (heading : Heading)
    → option_map heading_of (slice_get buckets at) ≡ Some heading
    → (bucket : Bucket) × (slice_get buckets at ≡ Some bucket) × (heading_of bucket ≡ heading)
heading-at buckets at heading is = by-case (slice_get buckets at) refl is
  where
    by-case : (here : Option Bucket) → slice_get buckets at ≡ here → option_map heading_of here ≡ Some heading
        → (bucket : Bucket) × (slice_get buckets at ≡ Some bucket) × (heading_of bucket ≡ heading)
    by-case None there some = cc
    by-case (Some bucket) there some = (bucket, there, same_Some _ _ some)

twin-of : (buckets others : List Bucket) (at : ℕ) (bucket : Bucket) → IsKept buckets → IsKept others
    → database_of buckets ≡ database_of others → slice_get others at ≡ Some bucket → Twin buckets at bucket
twin-of buckets others at bucket kept other_kept same there =
    let headings : option_map heading_of (slice_get buckets at) ≡ Some (heading_of bucket) =
    sym (slice_get-map heading_of buckets at)
    ∙ ap (λ (d : Database). slice_get d.buckets at) same
    ∙ slice_get-map heading_of others at ∙ ap (option_map heading_of) there in
    let twin = heading-at buckets at (heading_of bucket) headings in
    let name : twin.0.name ≡ bucket.name = ap (λ (h : Heading). h.name) twin.2 in
    record {
      other = twin.0;
      there = twin.1;
      policies = sym (policies_of-at buckets at twin.0 kept.names_rise twin.1)
          ∙ (λ i. policies_of (same i) (name i))
          ∙ policies_of-at others at bucket other_kept.names_rise there;
      name = name;
      fallback = ap (λ (h : Heading). h.fallback) twin.2;
    }

-- a bucket with the same policies and the same fallback, in a list of buckets where targets have the same places
module _ (buckets others : List Bucket)
    (targets : (policy : Policy) (at : Option ℕ) → TargetsAt buckets policy at → TargetsAt others policy at) where
  filed-moved : (policies : List Policy) (one : Filed) → IsFiled buckets policies one → IsFiled others policies one
  filed-moved policies one is = record {
    policy = is.policy;
    there = is.there;
    kind = is.kind;
    shape = is.shape;
    target = targets is.policy _ is.target;
  }

  pub sheet-moved : (names : List (List ℕ)) (bucket twin : Bucket) (sheet : Sheet) → twin.policies ≡ bucket.policies
      → twin.fallback ≡ bucket.fallback → IsSheetOf names buckets twin sheet → IsSheetOf names others bucket sheet
  sheet-moved names bucket twin sheet policies fallback is = record {
    marked = subst (λ list. IsTable names list (places_by (filed_in sheet))) policies is.marked;
    filed = subst (λ list. AreFiled others list (filed_in sheet)) policies
        (λ mark one there. filed-moved twin.policies one (is.filed mark one there));
    gaps = subst (λ list. (from to : ℕ) → slice_get sheet.next from ≡ Some to → IsGap list from to) policies is.gaps;
    fallback = is.fallback ∙ ap (λ (ruling : Ruling). ruling.kind) fallback;
  }

module _ (database : Database) (buckets others : List Bucket) (kept : IsKept buckets) (other_kept : IsKept others)
    (same : database_of buckets ≡ database_of others) where
  targets-same : (policy : Policy) (at : Option ℕ) → TargetsAt buckets policy at → TargetsAt others policy at
  targets-same policy None is = is
  targets-same policy (Some at) is =
      let twin = twin-of others buckets at is.bucket other_kept kept (sym same) is.there in
      record { points = is.points; bucket = twin.other; there = twin.there; name = twin.name ∙ is.name }

  sheet-same : (names : List (List ℕ)) (bucket twin : Bucket) (sheet : Sheet) → twin.policies ≡ bucket.policies
      → twin.fallback ≡ bucket.fallback → IsSheetOf names buckets twin sheet → IsSheetOf names others bucket sheet
  sheet-same = sheet-moved buckets others targets-same

pub sheets-of-database : (names : List (List ℕ)) (database : Database) (buckets : List Bucket) (sheets : List Sheet)
    → database_of buckets ≡ database → IsKept buckets → AreSheets names buckets sheets
    → AreSheetsOf names database sheets
sheets-of-database names database buckets sheets same kept are = λ others other_same other_kept.
    let both : database_of buckets ≡ database_of others = same ∙ sym other_same in
    record {
      count = are.count ∙ sym (length-map buckets heading_of)
          ∙ ap (λ (d : Database). length d.buckets) both ∙ length-map others heading_of;
      each = λ at bucket sheet there sheet_there.
          let twin = twin-of buckets others at bucket kept other_kept both there in
          sheet-same database buckets others kept other_kept both names bucket twin.other sheet twin.policies twin.fallback
          (are.each at twin.other sheet twin.there sheet_there);
    }

-- ---- what is filed

mapped : (b : Bool) (one : Filed) (rest : Option Filed)
    → option_map (λ (o : Filed). o.place) (cond b (Some one) rest)
    ≡ cond b (Some one.place) (option_map (λ (o : Filed). o.place) rest)
mapped true one rest = refl
mapped false one rest = refl

module _ (old new : ℕ → Option Filed) (mark : ℕ) (one : Filed)
    (puts : (other : ℕ) → new other ≡ cond (other == mark) (Some one) (old other)) where
  pub places-put : (at : ℕ) → one.place ≡ at → (other : ℕ)
      → places_by new other ≡ cond (other == mark) (Some at) (places_by old other)
  places-put at here other =
      ap (option_map (λ (o : Filed). o.place)) (puts other) ∙ mapped (other == mark) one (old other)
      ∙ ap (λ place. cond (other == mark) (Some place) (places_by old other)) here

  put-filed : (buckets : List Bucket) (policies : List Policy) → AreFiled buckets policies old
      → IsFiled buckets policies one → (other : ℕ) (own : Filed) (same : Bool)
      → cond same (Some one) (old other) ≡ Some own → IsFiled buckets policies own
  put-filed buckets policies are is other own true found = subst (IsFiled buckets policies) (same_Some _ _ found) is
  put-filed buckets policies are is other own false found = are other own found

  pub filed-put : (buckets : List Bucket) (policies : List Policy) → AreFiled buckets policies old
      → IsFiled buckets policies one → AreFiled buckets policies new
  filed-put buckets policies are is =
      λ other own found. put-filed buckets policies are is other own (other == mark) (sym (puts other) ∙ found)

pub table-none : (names : List (List ℕ)) (policies : List Policy) (filed : ℕ → Option Filed)
    → ((mark : ℕ) → filed mark ≡ None) → IsTableTo names policies (places_by filed) 0
table-none names policies filed none = record {
  sound = λ mark place is.
      let no : None ≡ Some place = sym (ap (option_map (λ (o : Filed). o.place)) (none mark)) ∙ is in cc;
  complete = λ place policy less there. absurd (omega arith);
}

pub filed-none : (buckets : List Bucket) (policies : List Policy) (filed : ℕ → Option Filed)
    → ((mark : ℕ) → filed mark ≡ None) → AreFiled buckets policies filed
filed-none buckets policies filed none = λ mark one is. let no : None ≡ Some one = sym (none mark) ∙ is in cc

-- a place that is known is not the number of no place
pub target-is : (buckets : List Bucket) (policy : Policy) (below : ℕ) → below < 65536 → PointsTo buckets policy below
    → TargetIs buckets policy below
target-is buckets policy below few points =
    subst (TargetsAt buckets policy)
    (sym (ap (λ b. cond b None (Some below)) (ne_eqb below 4294967295 (λ e. omega (arith, e, few))))) points

-- ---- the next shape

set-some : {X : Type 0} (xs : List X) (at : ℕ) (x y : X) → slice_get (set xs at x) at ≡ Some y → x ≡ y
set-some [] at x y is = cc
set-some (z ∷ xs) zero x y is = same_Some _ _ is
set-some (z ∷ xs) (suc at) x y is = set-some xs at x y is

pub next-more : (shapes : List Bool) (next : List ℕ) (least at to : ℕ) → least ≤ at + 1 → AreNext shapes next least
    → IsNextOf shapes at to → AreNext shapes (set next at to) at
next-more shapes next least at to close are is = λ from other le found. elim (cases_eq from at) [
  | inl same ↦
      (let own : to ≡ other = set-some next at to other (ap (slice_get (set next at to)) (sym same) ∙ found) in
      subst (λ n. IsNextOf shapes n other) (sym same) (subst (IsNextOf shapes at) own is))
  | inr apart ↦
      are from other (omega (arith, le, close, apart)) (sym (get-set-other next at from to apart) ∙ found)
]

pub next-behind : (shapes : List Bool) (at to : ℕ) → slice_get shapes at ≡ Some false → IsNextOf shapes (at + 1) to
    → IsNextOf shapes at to
next-behind shapes at to none is = let order = is.order in record {
  order = omega (arith, order);
  between = λ shape le less. elim (cases_eq shape at) [
    | inl same ↦ ap (slice_get shapes) same ∙ none
    | inr apart ↦ is.between shape (omega (arith, le, apart)) less
  ];
}

pub gaps-of : (policies : List Policy) (shapes : List Bool) (next : List ℕ) → IsShaped policies shapes
    → AreNext shapes next 0 → (from to : ℕ) → slice_get next from ≡ Some to → IsGap policies from to
gaps-of policies shapes next shaped are = λ from to is.
    let found = are from to (omega arith) is in
    record {
      order = found.order;
      between = λ place policy there le lt.
          shaped place policy there (found.between (shape_of policy.key) le lt);
    }

-- where there are sheets, they are those of the database
pub sheets-for : {X : Type 0} (names : List (List ℕ)) (database : Database) (buckets : List Bucket)
    (sheets : X → List Sheet) (made : Option X) → database_of buckets ≡ database → IsKept buckets
    → IfSome made (λ x. AreSheets names buckets (sheets x)) → IfSome made (λ x. AreSheetsOf names database (sheets x))
sheets-for names database buckets sheets None same kept are = tt
sheets-for names database buckets sheets (Some x) same kept are =
    sheets-of-database names database buckets (sheets x) same kept are
