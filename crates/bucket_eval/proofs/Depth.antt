-- A bucket's answer does not hang on the bound on depth, once no walk from it is as long.
use Rattle.std.proofs.Common.{◌≡◌, ℕ, ◌≤◌, ◌<◌, zero, suc, Bool, true, false, cond, List, [], ◌∷◌, length, map, get_or}
use Rattle.std.proofs.Common.{None, Some, slice_get, refl, ap, arith}
use Rattle.std.specs.List.{AllByRecursion, Contains, filter, filter_map, cons_option}
use Rattle.std.proofs.lemmas.List.Elements.{recursion_from_All}
use Rattle.cynara_keys.specs.Key.{Question, key_matches}
use Rattle.cynara_keys.specs.Minimum.{first_least}
use Rattle.cynara_keys.specs.Text.{same_text}
use Rattle.cynara_keys.specs.declared.keys.Policy.{Policy}
use Rattle.cynara_keys.proofs.Order.{same_text-≡}
use Rattle.bucket_store.specs.Bucket.{Bucket}
use Rattle.bucket_store.specs.Database.{Database, Placed, database_of}
use Rattle.bucket_store.specs.Walk.{points, target, IsStep}
use Rattle.bucket_store.specs.WellFormed.{IsWellFormed}
use Rattle.bucket_eval.specs.Evaluation.{Outcome, contribution, contribution_cmp, counted, decided, fallback_of}
use Rattle.bucket_eval.specs.Evaluation.{outcome_of, answer_within}
use Rattle.bucket_eval.specs.Depth.{DepthChangesNothing}
use Rattle.bucket_eval.specs.parts.Ends.{EndsWithin}
use Rattle.bucket_eval.proofs.Targets.{all-at}

-- ---- what a bucket's policies contribute hangs on what the buckets answer that they point to

-- where the one answers as the other for the bucket that the policy points to
Alike : (List ℕ → Outcome) → (List ℕ → Outcome) → Policy → Type 0
Alike one other policy = points policy ≡ true → one (target policy) ≡ other (target policy)

outcome-same : (one other : List ℕ → Outcome) (deep : Bool) (name : List ℕ) (policy : Policy) → Alike one other policy
    → outcome_of one deep name policy ≡ outcome_of other deep name policy
unfolding Alike
outcome-same one other deep name policy same = told (points policy) refl
  where
    told : (pointing : Bool) → points policy ≡ pointing
        → cond pointing (cond deep (Some (one (target policy))) None)
        (Some (record { result = policy.result; cause = record { bucket = name; key = Some policy.key } }))
        ≡ cond pointing (cond deep (Some (other (target policy))) None)
        (Some (record { result = policy.result; cause = record { bucket = name; key = Some policy.key } }))
    told true is = ap (λ o. cond deep (Some o) None) (same is)
    told false is = refl

contribution-same : (one other : List ℕ → Outcome) (deep : Bool) (name : List ℕ) (question : Question) (policy : Policy)
    → Alike one other policy
    → contribution one deep name question policy ≡ contribution other deep name question policy
contribution-same one other deep name question policy same =
    ap (λ o. cond (key_matches policy.key question) (counted policy.key o) None)
    (outcome-same one other deep name policy same)

-- the same of a bucket's policies in a list of placed ones
AlikeIn : (List ℕ → Outcome) → (List ℕ → Outcome) → List ℕ → Placed → Type 0
AlikeIn one other name placed = same_text placed.bucket name ≡ true → Alike one other placed.policy

offers-same : (one other : List ℕ → Outcome) (deep : Bool) (name : List ℕ) (question : Question) (placeds : List Placed)
    → AllByRecursion (AlikeIn one other name) placeds
    → filter_map (contribution one deep name question)
    (map (λ placed. placed.policy) (filter (λ placed. same_text placed.bucket name) placeds))
    ≡ filter_map (contribution other deep name question)
    (map (λ placed. placed.policy) (filter (λ placed. same_text placed.bucket name) placeds))
unfolding AlikeIn
offers-same one other deep name question [] all = refl
offers-same one other deep name question (placed ∷ placeds) all =
    here (same_text placed.bucket name) refl (offers-same one other deep name question placeds all.1)
  where
    here : (is_own : Bool) → same_text placed.bucket name ≡ is_own
        → filter_map (contribution one deep name question)
        (map (λ (p : Placed). p.policy) (filter (λ (p : Placed). same_text p.bucket name) placeds))
        ≡ filter_map (contribution other deep name question)
        (map (λ (p : Placed). p.policy) (filter (λ (p : Placed). same_text p.bucket name) placeds))
        → filter_map (contribution one deep name question)
        (map (λ (p : Placed). p.policy)
        (cond is_own (placed ∷ filter (λ (p : Placed). same_text p.bucket name) placeds)
        (filter (λ (p : Placed). same_text p.bucket name) placeds)))
        ≡ filter_map (contribution other deep name question)
        (map (λ (p : Placed). p.policy)
        (cond is_own (placed ∷ filter (λ (p : Placed). same_text p.bucket name) placeds)
        (filter (λ (p : Placed). same_text p.bucket name) placeds)))
    here true is rest =
        λ i. cons_option (contribution-same one other deep name question placed.policy (all.0 is) i) (rest i)
    here false is rest = rest

-- ---- walks from a bucket and from those that it points to

pub ends-below : (policies : List Placed) (most : ℕ) (from : List ℕ) (step : Placed)
    → EndsWithin policies (suc most) from → IsStep policies from step → EndsWithin policies most (target step.policy)
ends-below policies most from step ends is =
    λ steps walks. let less = ends (step ∷ steps) (is, walks) in omega (arith, less)

contains-at : {X : Type 0} (xs : List X) (at : ℕ) (d : X) → at < length xs → Contains xs (get_or xs at d)
contains-at [] at d within = absurd (omega arith)
contains-at (x ∷ xs) zero d within = (0, omega arith, refl)
contains-at (x ∷ xs) (suc at) d within =
    let rest = contains-at xs at d (omega arith) in
    (suc rest.0, omega (arith, rest.1), rest.2)

-- ---- a greater bound on depth

pub answers-same : (database : Database) (question : Question) (deep : Bool) (most more : ℕ) (name : List ℕ)
    → EndsWithin database.policies most name → most ≤ more
    → answer_within database question deep more name ≡ answer_within database question deep most name
unfolding answer_within AlikeIn Alike
answers-same database question deep zero more name ends le = let less = ends [] tt in absurd (omega (arith, less))
answers-same database question deep (suc most) zero name ends le = absurd (omega arith)
answers-same database question deep (suc most) (suc more) name ends le =
    let all : AllByRecursion (AlikeIn (answer_within database question deep more)
    (answer_within database question deep most) name) database.policies =
    recursion_from_All _ database.policies (λ k d within own pointing.
    let placed : Placed = get_or database.policies k d in
    answers-same database question deep most more (target placed.policy)
    (ends-below database.policies most name placed ends
    (record { there = contains-at database.policies k d within; points = pointing; own = same_text-≡ placed.bucket name own }))
    (omega arith)) in
    ap (λ offered. decided (fallback_of database name) (first_least contribution_cmp offered))
    (offers-same (answer_within database question deep more) (answer_within database question deep most) deep name question
    database.policies all)

pub depth-changes-nothing : (database : Database) → IsWellFormed database → DepthChangesNothing database
depth-changes-nothing database formed =
    λ name question deep most there le.
    answers-same database question deep (length database.buckets) most name (λ steps walks. formed.walks_end name steps there walks)
    le

-- ---- the policies of buckets as steps of a walk

pub step-of : (buckets : List Bucket) (at : ℕ) (bucket : Bucket) (place : ℕ) (policy : Policy)
    → slice_get buckets at ≡ Some bucket → slice_get bucket.policies place ≡ Some policy → points policy ≡ true
    → IsStep (database_of buckets).policies bucket.name (record { bucket = bucket.name; policy = policy })
step-of buckets at bucket place policy is there pointing =
    let policies : List Placed = (database_of buckets).policies in
    let all : AllByRecursion (Contains policies) policies =
    recursion_from_All (Contains policies) policies (λ k d within. contains-at policies k d within) in
    record {
      there = all-at (Contains policies) buckets at bucket place policy all is there;
      points = pointing;
      own = refl;
    }
