-- Walks that come to no cycle: what holds of the buckets that a bucket's policies point to holds of the bucket.
use Rattle.std.proofs.Common.{◌≡◌, ℕ, ◌+◌, ◌<◌, ◌≤◌, zero, suc, Bool, true, false, List, [], ◌∷◌, ◌++◌, length, map, get_or, take, set, replicate, eqb}
use Rattle.std.proofs.Common.{Some, None, Ok, refl, sym, ap, ◌∙◌, subst, arith, cond}
use mathlib.Core.Logic.{⊎_elim}
use Rattle.std.specs.List.{AllByRecursion, Contains, flat_map, position}
use Rattle.std.specs.List.Sorted.{IsStrictlySortedBy}
use Rattle.std.proofs.lemmas.Bool.{true≢false, cases_eq, cases_lt}
use Rattle.std.proofs.lemmas.Cmp.{tied_itself}
use Rattle.std.proofs.lemmas.List.{get_or_default, get_or-replicate, get_or-set_other, take_more}
use Rattle.std.proofs.lemmas.List.Elements.{All-contains, All-from_recursion, recursion_from_All}
use Rattle.cynara_keys.specs.Text.{same_text, text_cmp}
use Rattle.cynara_keys.specs.PolicyResult.{Ruling, bucket as bucket_kind}
use Rattle.cynara_keys.specs.declared.keys.Policy.{Policy}
use Rattle.cynara_keys.proofs.Order.{text_total}
use Rattle.bucket_store.specs.Bucket.{Bucket}
use Rattle.bucket_store.specs.Database.{Placed, placed_of}
use Rattle.bucket_store.specs.Order.{bucket_cmp}
use Rattle.bucket_store.specs.Walk.{IsWalk, end_of, Leads, IsOnCycle}
use Rattle.bucket_store.specs.parts.Search.{StandsAt}
use Rattle.bucket_store.specs.parts.Edit.{bucket_of}
use Rattle.bucket_store.specs.parts.Ending.{bucket_at, name_at, link_place, Ends, LinkEnds, AreEnding, IsLeast}
use Rattle.bucket_store.proofs.Lists.{All-append}
use Rattle.bucket_store.proofs.Searching.{found}
use Rattle.bucket_store.proofs.Sound.{All-flat, bucket-place}

-- a fact of the first elements, and of one more
pub All-more : {X : Type 0} (P : X → Type 0) (xs : List X) (i : ℕ) (x : X) → i < length xs → x ≡ get_or xs i x
    → AllByRecursion P (take i xs)
    → P x
    → AllByRecursion P (take (i + 1) xs)
All-more P xs i x lt is all one =
    subst (AllByRecursion P) (sym (take_more xs i x lt ∙ ap (λ y. take i xs ++ y ∷ []) (sym is)))
    (All-append P (take i xs) (x ∷ []) all (one, tt))

-- ---- policies in their buckets

placed-steps : (Q : Policy → Type 0) (own name : List ℕ) (policies : List Policy)
    → (name ≡ own → AllByRecursion Q policies)
    → AllByRecursion (λ (step : Placed). step.bucket ≡ own → Q step.policy)
    (map (λ policy. let placed : Placed = record { bucket = name; policy = policy } in placed) policies)
placed-steps Q own name [] holds = tt
placed-steps Q own name (policy ∷ policies) holds =
    ((λ same. (holds same).0), placed-steps Q own name policies (λ same. (holds same).1))

flat-steps : (Q : Policy → Type 0) (own : List ℕ) (xs : List Bucket)
    → AllByRecursion (λ (bucket : Bucket). bucket.name ≡ own → AllByRecursion Q bucket.policies) xs
    → AllByRecursion (λ (step : Placed). step.bucket ≡ own → Q step.policy) (flat_map placed_of xs)
flat-steps Q own [] all = tt
flat-steps Q own (bucket ∷ xs) all =
    All-append (λ (step : Placed). step.bucket ≡ own → Q step.policy) (placed_of bucket) (flat_map placed_of xs)
    (placed-steps Q own bucket.name bucket.policies all.0) (flat-steps Q own xs all.1)

-- a bucket of this name is there
abbrev pub IsThere : List Bucket → List ℕ → Type 0
IsThere buckets name = (at : ℕ) × (at < length buckets) × (name_at buckets at ≡ name)

pub step-there : (buckets : List Bucket) (step : Placed) → Contains (flat_map placed_of buckets) step
    → IsThere buckets step.bucket
step-there buckets step there =
    All-contains (λ (other : Placed). IsThere buckets other.bucket) (flat_map placed_of buckets) step
    (All-from_recursion (λ (other : Placed). IsThere buckets other.bucket) (flat_map placed_of buckets)
    (All-flat (λ (other : Placed). IsThere buckets other.bucket) (λ (bucket : Bucket). IsThere buckets bucket.name)
    (λ bucket is policy. is) buckets
    (recursion_from_All (λ (bucket : Bucket). IsThere buckets bucket.name) buckets
    (λ k d lt. (
      k,
      lt,
      ap (λ (bucket : Bucket). bucket.name)
          (get_or_default buckets k (bucket_of [] (record { kind = 0; metadata = [] }) []) d lt),
    )))))
    there

-- a bucket on a cycle is there
pub cycle-there : (buckets : List Bucket) (name : List ℕ) → IsOnCycle (flat_map placed_of buckets) name
    → IsThere buckets name
cycle-there buckets name on =
    let is = step-there buckets on.first on.walks.0.there in
    (is.0, is.1, is.2 ∙ on.walks.0.own)

module _ (buckets : List Bucket) (rise : IsStrictlySortedBy bucket_cmp buckets) where
  stands : (at : ℕ) (name : List ℕ) → at < length buckets → name_at buckets at ≡ name
      → StandsAt (λ (bucket : Bucket). text_cmp bucket.name name) buckets at
  stands at name lt is =
      found text_total (λ (bucket : Bucket). bucket.name) name buckets at rise lt
      (λ d. ap (λ (bucket : Bucket). text_cmp bucket.name name)
      (get_or_default buckets at d (bucket_of [] (record { kind = 0; metadata = [] }) []) lt)
      ∙ ap (λ text. text_cmp text name) is ∙ tied_itself text_total name)

  pub placed-at : (at : ℕ) (name : List ℕ) → at < length buckets → name_at buckets at ≡ name
      → Some at ≡ position (λ (bucket : Bucket). same_text bucket.name name) buckets
  placed-at at name lt is = bucket-place name buckets (Ok at) (stands at name lt is) tt

  -- a name is at one place
  pub one-place : (at other : ℕ) (name : List ℕ) → at < length buckets → other < length buckets
      → name_at buckets at ≡ name
      → name_at buckets other ≡ name
      → at ≡ other
  one-place at other name lt less is same =
      let both : Some at ≡ Some other = placed-at at name lt is ∙ sym (placed-at other name less same) in
      cc

  pub link-at : (ruling : Ruling) (at : ℕ) → eqb ruling.kind bucket_kind ≡ true → at < length buckets
      → name_at buckets at ≡ ruling.metadata
      → link_place buckets ruling ≡ Some at
  link-at ruling at links lt is =
      ap (λ b. cond b (position (λ (bucket : Bucket). same_text bucket.name ruling.metadata) buckets) None) links
      ∙ sym (placed-at at ruling.metadata lt is)

  -- the policies of all buckets that are in this one are its own
  pub own-steps : (Q : Policy → Type 0) (at : ℕ) → at < length buckets
      → AllByRecursion Q (bucket_at buckets at).policies
      → (step : Placed) → Contains (flat_map placed_of buckets) step → step.bucket ≡ name_at buckets at → Q step.policy
  own-steps Q at lt all step there own =
      let blank : Bucket = bucket_of [] (record { kind = 0; metadata = [] }) [] in
      let name = name_at buckets at in
      All-contains (λ (other : Placed). other.bucket ≡ name → Q other.policy) (flat_map placed_of buckets) step
      (All-from_recursion (λ (other : Placed). other.bucket ≡ name → Q other.policy) (flat_map placed_of buckets)
      (flat-steps Q name buckets
      (recursion_from_All (λ (bucket : Bucket). bucket.name ≡ name → AllByRecursion Q bucket.policies) buckets
      (λ k d less same.
      let is : get_or buckets k d ≡ get_or buckets k blank = get_or_default buckets k d blank less in
      let here : k ≡ at =
      one-place k at name less lt (sym (ap (λ (bucket : Bucket). bucket.name) is) ∙ same) refl in
      subst (λ (bucket : Bucket). AllByRecursion Q bucket.policies)
      (sym (is ∙ ap (λ i. get_or buckets i blank) here)) all))))
      there own

  -- ---- walks from where walks end

  pub link-free : (ruling : Ruling) → eqb ruling.kind bucket_kind ≡ true → LinkEnds buckets ruling
      → (others : List Placed) (to : List ℕ)
      → IsWalk (flat_map placed_of buckets) ruling.metadata others → end_of ruling.metadata others ≡ to
      → IsOnCycle (flat_map placed_of buckets) to → ⊥
  link-free ruling links ends [] to walks is on =
      let here = cycle-there buckets to on in
      ends here.0 (link-at ruling here.0 links here.1 (here.2 ∙ sym is)) to
      (subst (λ name. Leads (flat_map placed_of buckets) name to) (sym here.2) on) on
  link-free ruling links ends (next ∷ others) to walks is on =
      let here = step-there buckets next walks.0.there in
      let same : name_at buckets here.0 ≡ ruling.metadata = here.2 ∙ walks.0.own in
      ends here.0 (link-at ruling here.0 links here.1 same) to
      (subst (λ name. Leads (flat_map placed_of buckets) name to) (sym same)
      (record { first = next; others = others; walks = walks; ends = is })) on

  -- walks from a bucket end where they end from each bucket that its policies point to
  pub Ends-links : (at : ℕ) → at < length buckets
      → AllByRecursion (λ (policy : Policy). LinkEnds buckets policy.result) (bucket_at buckets at).policies
      → Ends (flat_map placed_of buckets) (name_at buckets at)
  Ends-links at lt all to lead on =
      let is = lead.walks.0 in
      link-free lead.first.policy.result is.points
      (own-steps (λ (policy : Policy). LinkEnds buckets policy.result) at lt all lead.first is.there is.own)
      lead.others to lead.walks.1 lead.ends on

  -- ---- flags

  pub AreEnding-set : (flags : List Bool) (at : ℕ) → AreEnding buckets flags
      → Ends (flat_map placed_of buckets) (name_at buckets at) → AreEnding buckets (set flags at true)
  AreEnding-set flags at told ends k is =
      ⊎_elim (λ same. subst (λ i. Ends (flat_map placed_of buckets) (name_at buckets i)) (sym same) ends)
      (λ other. told k (sym (get_or-set_other flags at k true false other) ∙ is)) (cases_eq k at)

  pub AreEnding-start : (count : ℕ) → AreEnding buckets (replicate count false)
  AreEnding-start count k is =
      ⊎_elim (λ lt. absurd (true≢false (sym is ∙ get_or-replicate count k false false lt)))
      (λ ge. absurd (true≢false (sym is ∙ none count k ge))) (cases_lt k count)
    where
      none : (count k : ℕ) → count ≤ k → get_or (replicate count false) k false ≡ false
      none zero k ge = refl
      none (suc count) zero ge = absurd (omega arith)
      none (suc count) (suc k) ge = none count k (omega arith)

  -- ---- the least bucket on a cycle

  pub none-on : ((at : ℕ) → at < length buckets → IsOnCycle (flat_map placed_of buckets) (name_at buckets at) → ⊥)
      → IsLeast buckets None
  none-on none name on =
      let here = cycle-there buckets name on in
      none here.0 here.1 (subst (IsOnCycle (flat_map placed_of buckets)) (sym here.2) on)
