-- The places that walks from a bucket lead to: once the links of each are among them, they are all that walks lead to.
use Rattle.std.proofs.Common.{◌≡◌, ℕ, ◌+◌, ◌<◌, ◌≤◌, zero, suc, Bool, true, false, not, cond, ◌||◌, eqb, List, [], ◌∷◌}
use Rattle.std.proofs.Common.{◌++◌, length, get_or, set, take, replicate, Option, Some, None, refl, sym, ap, ◌∙◌, subst, arith}
use Rattle.std.proofs.Common.{append-nil}
use mathlib.Core.Logic.{⊎_elim}
use Rattle.std.specs.List.{AllByRecursion, Contains, filter, flat_map, position}
use Rattle.std.specs.List.Sorted.{IsStrictlySortedBy}
use Rattle.std.proofs.lemmas.Bool.{true≢false, cases_eq, eqb-true, eq-eqb, ne_eqb, or_cases, or_left, or_right}
use Rattle.std.proofs.lemmas.List.{append_assoc, get_or-replicate, get_or-set_same, get_or-set_other, length-append, length-replicate}
use Rattle.std.proofs.lemmas.List.{length-set, take_all, take-append-le, get_or_default}
use Rattle.std.proofs.lemmas.List.Elements.{All-contains_itself, recursion_from_All}
use Rattle.std.proofs.lemmas.List.Folds.{list_any-append}
use Rattle.std.proofs.lemmas.List.Quantifiers.{position-Some}
use Rattle.cynara_keys.specs.Text.{same_text}
use Rattle.cynara_keys.specs.PolicyResult.{Ruling, bucket as bucket_kind}
use Rattle.cynara_keys.specs.declared.keys.Policy.{Policy}
use Rattle.cynara_keys.proofs.Order.{same_text-≡}
use Rattle.bucket_store.specs.Bucket.{Bucket}
use Rattle.bucket_store.specs.Database.{Placed, placed_of}
use Rattle.bucket_store.specs.Order.{bucket_cmp}
use Rattle.bucket_store.specs.Walk.{target, IsWalk, end_of, Leads, IsOnCycle}
use Rattle.bucket_store.specs.parts.Edit.{bucket_of}
use Rattle.bucket_store.specs.parts.Ending.{bucket_at, name_at, link_place, flag}
use Rattle.bucket_store.specs.parts.Reaching.{has_place, with_place, with_links, IsFlagged}
use Rattle.bucket_store.proofs.Ending.{All-more, link-at, own-steps, step-there}
use Rattle.bucket_store.proofs.Lists.{All-weaker, All-append, All-front, All-back, All-unmap}
use Rattle.bucket_store.proofs.Walks.{Leads-append, Leads-step}

-- ---- places

abbrev Grows : List ℕ → List ℕ → Type 0
Grows places all = (more : List ℕ) × (all ≡ places ++ more)

place-grows : (places : List ℕ) (o : Option ℕ) → Grows places (with_place places o)
place-grows places None = ([], sym (append-nil places))
place-grows places (Some at) = parts (has_place places at)
  where
    parts : (b : Bool) → Grows places (cond b places (places ++ at ∷ []))
    parts true = ([], sym (append-nil places))
    parts false = (at ∷ [], refl)

Grows-append : (one two three : List ℕ) → Grows one two → Grows two three → Grows one three
Grows-append one two three first second = (
  first.0 ++ second.0,
  second.1 ∙ ap (λ list. list ++ second.0) first.1 ∙ append_assoc one first.0 second.0,
)

has-more : (places more : List ℕ) (at : ℕ) → has_place places at ≡ true → has_place (places ++ more) at ≡ true
has-more places more at has = list_any-append (λ place. eqb place at) places more ∙ or_left _ _ has

has-grown : (places all : List ℕ) (at : ℕ) → Grows places all → has_place places at ≡ true → has_place all at ≡ true
has-grown places all at grows has =
    subst (λ list. has_place list at ≡ true) (sym grows.1) (has-more places grows.0 at has)

has-last : (places : List ℕ) (at : ℕ) → has_place (places ++ at ∷ []) at ≡ true
has-last places at =
    list_any-append (λ place. eqb place at) places (at ∷ [])
    ∙ or_right (has_place places at) (eqb at at || false) (or_left _ _ (eq-eqb at at refl))

has-placed : (places : List ℕ) (at : ℕ) → has_place (with_place places (Some at)) at ≡ true
has-placed places at = parts (has_place places at) refl
  where
    parts : (b : Bool) → has_place places at ≡ b → has_place (cond b places (places ++ at ∷ [])) at ≡ true
    parts true is = is
    parts false is = has-last places at

All-has : (P : ℕ → Type 0) (places : List ℕ) (at : ℕ) → AllByRecursion P places → has_place places at ≡ true → P at
All-has P [] at all has = absurd (true≢false (sym has))
All-has P (place ∷ places) at all has =
    ⊎_elim (λ here. subst P (eqb-true place at here) all.0) (λ later. All-has P places at all.1 later)
    (or_cases (eqb place at) (has_place places at) has)

-- ---- flags of places

count-set : (flags : List Bool) (at : ℕ) → at < length flags → flag flags at ≡ false
    → 1 + length (filter (λ flag. not flag) (set flags at true)) ≡ length (filter (λ flag. not flag) flags)
count-set [] at lt off = absurd (omega arith)
count-set (true ∷ flags) zero lt off = absurd (true≢false off)
count-set (false ∷ flags) zero lt off = omega arith
count-set (true ∷ flags) (suc at) lt off = count-set flags at (omega arith) off
count-set (false ∷ flags) (suc at) lt off =
    let rest = count-set flags at (omega arith) off in
    omega (arith, rest)

pub flagged-start : (count : ℕ) → IsFlagged (replicate count false) []
flagged-start count = record {
  tells = λ at lt. get_or-replicate count at false false (omega (arith, length-replicate count false));
  once = omega (arith, all-off count);
}
  where
    all-off : (count : ℕ)
        → length (filter (λ flag. not flag) (replicate count false)) ≡ length (replicate count false)
    all-off zero = refl
    all-off (suc count) = ap suc (all-off count)

pub flagged-more : (flags : List Bool) (places : List ℕ) (at : ℕ) → IsFlagged flags places → at < length flags
    → flag flags at ≡ false
    → IsFlagged (set flags at true) (places ++ at ∷ [])
flagged-more flags places at is lt off = record {
  tells = λ k less. ⊎_elim
      (λ same. ap (flag (set flags at true)) same ∙ get_or-set_same flags at true false lt
      ∙ sym (has-last places at) ∙ ap (has_place (places ++ at ∷ [])) (sym same))
      (λ other. get_or-set_other flags at k true false other
      ∙ is.tells k (omega (arith, less, length-set flags at true))
      ∙ sym (list_any-append (λ place. eqb place k) places (at ∷ [])
      ∙ ap (λ b. has_place places k || (b || false)) (ne_eqb at k (λ same. other (sym same)))
      ∙ or-false (has_place places k)))
      (cases_eq k at);
  once =
      omega (arith, is.once, count-set flags at lt off, length-set flags at true, length-append places (at ∷ []));
}
  where
    or-false : (b : Bool) → (b || false) ≡ b
    or-false true = refl
    or-false false = refl

-- ---- the links of policies

-- the bucket that each policy points to is among the places
abbrev pub AreAmong : List Bucket → List ℕ → List Policy → Type 0
AreAmong buckets places policies =
    AllByRecursion (λ (policy : Policy). (at : ℕ) → link_place buckets policy.result ≡ Some at
    → has_place places at ≡ true) policies

AreAmong-grown : (buckets : List Bucket) (places all : List ℕ) (policies : List Policy) → Grows places all
    → AreAmong buckets places policies → AreAmong buckets all policies
AreAmong-grown buckets places all policies grows among =
    All-weaker
    (λ (policy : Policy). (at : ℕ) → link_place buckets policy.result ≡ Some at → has_place places at ≡ true)
    (λ policy. (at : ℕ) → link_place buckets policy.result ≡ Some at → has_place all at ≡ true)
    (λ policy has at is. has-grown places all at grows (has at is)) policies among

links-grow : (buckets : List Bucket) (places : List ℕ) (policies : List Policy)
    → Grows places (with_links buckets places policies)
links-grow buckets places [] = ([], sym (append-nil places))
links-grow buckets places (policy ∷ policies) =
    let next = with_place places (link_place buckets policy.result) in
    Grows-append places next (with_links buckets next policies) (place-grows places (link_place buckets policy.result))
    (links-grow buckets next policies)

links-among : (buckets : List Bucket) (places : List ℕ) (policies : List Policy)
    → AreAmong buckets (with_links buckets places policies) policies
links-among buckets places [] = tt
links-among buckets places (policy ∷ policies) =
    let next = with_place places (link_place buckets policy.result) in (
      (λ at is. has-grown next (with_links buckets next policies) at (links-grow buckets next policies)
          (ap (λ o. has_place (with_place places o) at) is ∙ has-placed places at)),
      links-among buckets next policies,
    )

-- what holds of the places, and of the place of each link, holds of all
All-links : (P : ℕ → Type 0) (buckets : List Bucket) (places : List ℕ) (policies : List Policy)
    → AllByRecursion (λ (policy : Policy). (at : ℕ) → link_place buckets policy.result ≡ Some at → P at) policies
    → AllByRecursion P places → AllByRecursion P (with_links buckets places policies)
All-links P buckets places [] links all = all
All-links P buckets places (policy ∷ policies) links all =
    All-links P buckets (with_place places (link_place buckets policy.result)) policies links.1
    (one (link_place buckets policy.result) links.0)
  where
    one : (o : Option ℕ) → ((at : ℕ) → o ≡ Some at → P at) → AllByRecursion P (with_place places o)
    one None holds = all
    one (Some at) holds =
        elim (has_place places at) as (λ b. AllByRecursion P (cond b places (places ++ at ∷ [])))
        [ true ↦ all | false ↦ All-append P places (at ∷ []) all (holds at refl, tt) ]

-- ---- policies are steps

flat-parts : (P : Placed → Type 0) (xs : List Bucket) → AllByRecursion P (flat_map placed_of xs)
    → AllByRecursion (λ (bucket : Bucket). AllByRecursion
    (λ policy. let placed : Placed = record { bucket = bucket.name; policy = policy } in P placed) bucket.policies) xs
flat-parts P [] all = tt
flat-parts P (bucket ∷ xs) all = (
  All-unmap P (λ policy. let placed : Placed = record { bucket = bucket.name; policy = policy } in placed)
      bucket.policies
      (All-front P (placed_of bucket) (flat_map placed_of xs) all),
  flat-parts P xs (All-back P (placed_of bucket) (flat_map placed_of xs) all),
)

All-at : {X : Type 0} (P : X → Type 0) (xs : List X) → AllByRecursion P xs → (i : ℕ) (d : X) → i < length xs
    → P (get_or xs i d)
All-at P [] all i d lt = absurd (omega arith)
All-at P (x ∷ xs) all zero d lt = all.0
All-at P (x ∷ xs) all (suc i) d lt = All-at P xs all.1 i d (omega arith)

-- a bucket's policy in its bucket
abbrev placed_at : List Bucket → ℕ → Policy → Placed
placed_at buckets at policy = record { bucket = name_at buckets at; policy = policy }

own-there : (buckets : List Bucket) (at : ℕ) → at < length buckets
    → AllByRecursion (λ policy. Contains (flat_map placed_of buckets) (placed_at buckets at policy))
    (bucket_at buckets at).policies
own-there buckets at lt =
    All-at
    (λ (bucket : Bucket). AllByRecursion
    (λ policy. let placed : Placed = record { bucket = bucket.name; policy = policy } in
    Contains (flat_map placed_of buckets) placed) bucket.policies) buckets
    (flat-parts (Contains (flat_map placed_of buckets)) buckets
    (recursion_from_All (Contains (flat_map placed_of buckets)) (flat_map placed_of buckets)
    (All-contains_itself (flat_map placed_of buckets))))
    at (bucket_of [] (record { kind = 0; metadata = [] }) []) lt

-- where a link leads
record LeadsTo (buckets : List Bucket) (ruling : Ruling) (at : ℕ) : Type 0 where
  points : eqb ruling.kind bucket_kind ≡ true
  in_range : at < length buckets
  name : name_at buckets at ≡ ruling.metadata

link-leads : (buckets : List Bucket) (ruling : Ruling) (at : ℕ) → link_place buckets ruling ≡ Some at
    → LeadsTo buckets ruling at
link-leads buckets ruling at is = parts (eqb ruling.kind bucket_kind) refl is
  where
    parts : (b : Bool) → eqb ruling.kind bucket_kind ≡ b
        → cond b (position (λ (bucket : Bucket). same_text bucket.name ruling.metadata) buckets) None ≡ Some at
        → LeadsTo buckets ruling at
    parts false links is = cc
    parts true links is =
        let blank : Bucket = bucket_of [] (record { kind = 0; metadata = [] }) [] in
        let found = position-Some (λ (bucket : Bucket). same_text bucket.name ruling.metadata) buckets at blank is in
        record {
          points = links;
          in_range = found.0;
          name = same_text-≡ (name_at buckets at) ruling.metadata found.1;
        }

-- a walk from the bucket leads to the bucket at the place
abbrev pub IsReached : List Bucket → List ℕ → ℕ → Type 0
IsReached buckets own at = (at < length buckets) × Leads (flat_map placed_of buckets) own (name_at buckets at)

-- the links of a bucket lead to where a walk leads from it
own-reached : (buckets : List Bucket) (at : ℕ) → at < length buckets
    → AllByRecursion (λ (policy : Policy). (to : ℕ) → link_place buckets policy.result ≡ Some to
    → IsReached buckets (name_at buckets at) to) (bucket_at buckets at).policies
own-reached buckets at lt =
    All-weaker (λ policy. Contains (flat_map placed_of buckets) (placed_at buckets at policy))
    (λ (policy : Policy). (to : ℕ) → link_place buckets policy.result ≡ Some to
    → IsReached buckets (name_at buckets at) to)
    (λ policy there to is.
    let step : Placed = placed_at buckets at policy in
    let link = link-leads buckets policy.result to is in (
      link.in_range,
      subst (Leads (flat_map placed_of buckets) (name_at buckets at)) (sym link.name)
          (Leads-step (flat_map placed_of buckets) (name_at buckets at) step
          (record { there = there; points = link.points; own = refl })),
    )) (bucket_at buckets at).policies (own-there buckets at lt)

-- ---- places on walks from a bucket, of which so many have all of their links among them

pub record Follows (buckets : List Bucket) (at : ℕ) (places : List ℕ) (next : ℕ) : Type 0 where
  pub reached : AllByRecursion (IsReached buckets (name_at buckets at)) places
  pub own : AreAmong buckets places (bucket_at buckets at).policies
  pub others : AllByRecursion (λ place. AreAmong buckets places (bucket_at buckets place).policies) (take next places)
  pub low : next ≤ length places

pub Follows-start : (buckets : List Bucket) (at : ℕ) → at < length buckets
    → Follows buckets at (with_links buckets [] (bucket_at buckets at).policies) 0
Follows-start buckets at lt =
    let policies = (bucket_at buckets at).policies in
    record {
      reached =
          All-links (IsReached buckets (name_at buckets at)) buckets [] policies (own-reached buckets at lt) tt;
      own = links-among buckets [] policies;
      others = tt;
      low = omega arith;
    }

pub Follows-in_range : (buckets : List Bucket) (at : ℕ) (places : List ℕ) (next : ℕ) → Follows buckets at places next
    → next < length places
    → get_or places next 0 < length buckets
Follows-in_range buckets at places next is lt =
    (All-at (IsReached buckets (name_at buckets at)) places is.reached next 0 lt).0

pub Follows-more : (buckets : List Bucket) (at : ℕ) (places : List ℕ) (next : ℕ) → Follows buckets at places next
    → next < length places
    → Follows buckets at (with_links buckets places (bucket_at buckets (get_or places next 0)).policies) (next + 1)
Follows-more buckets at places next is lt =
    let place = get_or places next 0 in
    let here = All-at (IsReached buckets (name_at buckets at)) places is.reached next 0 lt in
    let policies = (bucket_at buckets place).policies in
    let all = with_links buckets places policies in
    let grows = links-grow buckets places policies in
    let front : take (next + 1) all ≡ take (next + 1) places =
    ap (take (next + 1)) grows.1 ∙ take-append-le (next + 1) places grows.0 (omega (arith, lt)) in
    let P : ℕ → Type 0 = λ other. AreAmong buckets all (bucket_at buckets other).policies in
    record {
      reached =
          All-links (IsReached buckets (name_at buckets at)) buckets places policies
          (All-weaker
          (λ (policy : Policy). (to : ℕ) → link_place buckets policy.result ≡ Some to
          → IsReached buckets (name_at buckets place) to)
          (λ policy. (to : ℕ) → link_place buckets policy.result ≡ Some to → IsReached buckets (name_at buckets at) to)
          (λ policy leads to link. (
            (leads to link).0,
            Leads-append (flat_map placed_of buckets) (name_at buckets at) (name_at buckets place) (name_at buckets to)
                here.1
                (leads to link).1,
          )) policies (own-reached buckets place here.0))
          is.reached;
      own = AreAmong-grown buckets places all (bucket_at buckets at).policies grows is.own;
      others =
          subst (AllByRecursion P) (sym front)
          (All-more P places next place lt (get_or_default places next 0 place lt)
          (All-weaker (λ other. AreAmong buckets places (bucket_at buckets other).policies) P
          (λ other among. AreAmong-grown buckets places all (bucket_at buckets other).policies grows among)
          (take next places) is.others)
          (links-among buckets places policies));
      low = omega (arith, lt, ap length grows.1, length-append places grows.0);
    }

-- ---- all links are among the places

walk-among : (buckets : List Bucket) (rise : IsStrictlySortedBy bucket_cmp buckets) (places : List ℕ)
    → AllByRecursion (λ place. AreAmong buckets places (bucket_at buckets place).policies) places
    → (at : ℕ) → at < length buckets
    → (from : ℕ) → from < length buckets → AreAmong buckets places (bucket_at buckets from).policies
    → (name : List ℕ) → name_at buckets from ≡ name
    → (step : Placed) (steps : List Placed) → IsWalk (flat_map placed_of buckets) name (step ∷ steps)
    → end_of name (step ∷ steps) ≡ name_at buckets at → has_place places at ≡ true
walk-among buckets rise places others at lt from less among name is step [] walks ends =
    own-steps buckets rise
    (λ (policy : Policy). (to : ℕ) → link_place buckets policy.result ≡ Some to → has_place places to ≡ true) from less
    among step walks.0.there (walks.0.own ∙ sym is) at
    (link-at buckets rise step.policy.result at walks.0.points lt (sym ends))
walk-among buckets rise places others at lt from less among name is step (next ∷ steps) walks ends =
    let here = step-there buckets next walks.1.0.there in
    let same : name_at buckets here.0 ≡ target step.policy = here.2 ∙ walks.1.0.own in
    let has =
    own-steps buckets rise
    (λ (policy : Policy). (to : ℕ) → link_place buckets policy.result ≡ Some to → has_place places to ≡ true) from less
    among step walks.0.there (walks.0.own ∙ sym is) here.0
    (link-at buckets rise step.policy.result here.0 walks.0.points here.1 same) in
    walk-among buckets rise places others at lt here.0 here.1
    (All-has (λ place. AreAmong buckets places (bucket_at buckets place).policies) places here.0 others has)
    (target step.policy) same next steps walks.1 ends

module _ (buckets : List Bucket) (rise : IsStrictlySortedBy bucket_cmp buckets) (at : ℕ) (lt : at < length buckets)
    (places : List ℕ) (next : ℕ) (is : Follows buckets at places next) (all : length places ≤ next) where
  pub Follows-on : has_place places at ≡ true → IsOnCycle (flat_map placed_of buckets) (name_at buckets at)
  Follows-on has = (All-has (IsReached buckets (name_at buckets at)) places at is.reached has).1

  pub Follows-off : has_place places at ≡ false → IsOnCycle (flat_map placed_of buckets) (name_at buckets at) → ⊥
  Follows-off none on =
      true≢false
      (sym (walk-among buckets rise places
      (subst (AllByRecursion (λ place. AreAmong buckets places (bucket_at buckets place).policies))
      (take_all next places all) is.others)
      at lt at lt is.own (name_at buckets at) refl on.first on.others on.walks on.ends)
      ∙ none)
