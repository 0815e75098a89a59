-- Changes whose policies send on to where walks end close no cycle: a walk to a bucket on a cycle takes none of them.
use Rattle.std.proofs.Common.{◌≡◌, ℕ, true, not, List, [], ◌∷◌, inl, inr, ◌⊎◌}
use mathlib.Core.Logic.{⊎_elim}
use Rattle.std.specs.Ordering.{is_lt, is_gt}
use Rattle.std.specs.List.{AllByRecursion, filter, flat_map, fold, Contains}
use Rattle.std.specs.List.Sorted.{IsStrictlySortedBy}
use Rattle.std.proofs.lemmas.List.Elements.{All-from_recursion, recursion_from_All, All-contains, All-contains_itself}
use Rattle.cynara_keys.specs.PolicyResult.{Ruling}
use Rattle.bucket_store.specs.Bucket.{Bucket}
use Rattle.bucket_store.specs.Database.{Placed, placed_of}
use Rattle.bucket_store.specs.Order.{bucket_cmp, placed_cmp}
use Rattle.bucket_store.specs.Walk.{points, target, IsWalk, end_of, IsOnCycle}
use Rattle.bucket_store.specs.Change.{after_change, is_at}
use Rattle.bucket_store.specs.parts.Ending.{ChangeEnds, LinkEnds}
use Rattle.bucket_store.specs.declared.policy_changes.Change.{Change}
use Rattle.bucket_store.specs.declared.policy_changes.Change.TheVariants.{Set, Delete}
use Rattle.bucket_store.proofs.Ending.{link-free}
use Rattle.bucket_store.proofs.Lists.{All-weaker, All-append, All-filter}

-- the policy was there, or sends on to where what is known holds
abbrev pub Comes : (Ruling → Type 0) → List Placed → Placed → Type 0
Comes Q old placed = points placed.policy ≡ true → Contains old placed ⊎ Q placed.policy.result

-- what is known of the policy that a change puts
abbrev pub OfPut : (Ruling → Type 0) → Change → Type 0
OfPut Q (Set name key result) = Q result
OfPut Q (Delete name key) = Unit {0}

comes-one : (Q : Ruling → Type 0) (old policies : List Placed) (change : Change) → OfPut Q change
    → AllByRecursion (Comes Q old) policies
    → AllByRecursion (Comes Q old) (after_change policies change)
comes-one Q old policies (Delete name key) put all =
    All-filter (Comes Q old) (λ placed. not (is_at name key placed)) policies all
comes-one Q old policies (Set name key result) put all =
    let new : Placed = record { bucket = name; policy = record { key = key; result = result } } in
    All-append (Comes Q old) (filter (λ other. is_lt (placed_cmp other new)) policies)
    (new ∷ filter (λ other. is_gt (placed_cmp other new)) policies)
    (All-filter (Comes Q old) (λ other. is_lt (placed_cmp other new)) policies all) (
      (λ links. inr put),
      All-filter (Comes Q old) (λ other. is_gt (placed_cmp other new)) policies all,
    )

pub comes-all : (Q : Ruling → Type 0) (old policies : List Placed) (changes : List Change)
    → AllByRecursion (OfPut Q) changes
    → AllByRecursion (Comes Q old) policies
    → AllByRecursion (Comes Q old) (fold after_change policies changes)
comes-all Q old policies [] put all = all
comes-all Q old policies (change ∷ changes) put all =
    comes-all Q old (after_change policies change) changes put.1 (comes-one Q old policies change put.0 all)

pub comes-itself : (Q : Ruling → Type 0) (policies : List Placed) → AllByRecursion (Comes Q policies) policies
comes-itself Q policies =
    All-weaker (Contains policies) (Comes Q policies) (λ placed there links. inl there) policies
    (recursion_from_All (Contains policies) policies (All-contains_itself policies))

-- a walk to a bucket on a cycle takes none of the policies that were put
pub old-walk : (buckets : List Bucket) → IsStrictlySortedBy bucket_cmp buckets → (old : List Placed)
    → AllByRecursion (Comes (LinkEnds buckets) old) (flat_map placed_of buckets)
    → (from : List ℕ) (steps : List Placed) (to : List ℕ) → IsWalk (flat_map placed_of buckets) from steps
    → end_of from steps ≡ to → IsOnCycle (flat_map placed_of buckets) to → IsWalk old from steps
old-walk buckets rise old comes from [] to walks ends on = tt
old-walk buckets rise old comes from (step ∷ steps) to walks ends on =
    ⊎_elim
    (λ there. (
      record { there = there; points = walks.0.points; own = walks.0.own },
      old-walk buckets rise old comes (target step.policy) steps to walks.1 ends on,
    ))
    (λ link. absurd (link-free buckets rise step.policy.result walks.0.points link steps to walks.1 ends on))
    (All-contains (Comes (LinkEnds buckets) old) (flat_map placed_of buckets) step
    (All-from_recursion (Comes (LinkEnds buckets) old) (flat_map placed_of buckets) comes) walks.0.there
    walks.0.points)

pub put-ends : (buckets : List Bucket) (changes : List Change) → AllByRecursion (ChangeEnds buckets) changes
    → AllByRecursion (OfPut (LinkEnds buckets)) changes
put-ends buckets [] ends = tt
put-ends buckets (Set name key result ∷ changes) ends = (ends.0, put-ends buckets changes ends.1)
put-ends buckets (Delete name key ∷ changes) ends = (tt, put-ends buckets changes ends.1)
