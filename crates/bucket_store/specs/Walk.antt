-- Walks along policies that point to a bucket.
use Rattle.std.specs.Prelude.{◌≡◌, ℕ, zero, suc, Bool, true, false, ◌&&◌, ◌||◌, ◌==◌, List, [], ◌∷◌, length}
use Rattle.std.specs.List.{list_any, Contains}
use Rattle.cynara_keys.specs.Text.{same_text}
use Rattle.cynara_keys.specs.PolicyResult.{bucket}
use Rattle.cynara_keys.specs.declared.keys.Policy.{Policy}
use Rattle.bucket_store.specs.Database.{Placed, Database}

-- whether the policy points to a bucket
abbrev pub points : Policy → Bool
points policy = policy.result.kind == bucket

-- the bucket that it then points to
abbrev pub target : Policy → List ℕ
target policy = policy.result.metadata

abbrev pub points_to : List ℕ → Policy → Bool
points_to name policy = points policy && same_text (target policy) name

-- the policy is one of the list, points to a bucket, and is in this one
pub record IsStep (policies : List Placed) (from : List ℕ) (step : Placed) : Type 0 where
  pub there : Contains policies step
  pub points : points step.policy ≡ true
  pub own : step.bucket ≡ from

-- a walk from a bucket: the first policy is in it, and each other one in the bucket that the one before points to
abbrev pub IsWalk : List Placed → List ℕ → List Placed → Type 0
IsWalk policies from [] = Unit {0}
IsWalk policies from (step ∷ steps) = IsStep policies from step × IsWalk policies (target step.policy) steps

-- where a walk ends
abbrev pub end_of : List ℕ → List Placed → List ℕ
end_of from [] = from
end_of from (step ∷ steps) = end_of (target step.policy) steps

-- a walk of at least one policy leads from the one bucket to the other
pub record Leads (policies : List Placed) (from to : List ℕ) : Type 0 where
  pub first : Placed
  pub others : List Placed
  pub walks : IsWalk policies from (first ∷ others)
  pub ends : end_of from (first ∷ others) ≡ to

-- a walk of at least one policy leads from the bucket to itself
abbrev pub IsOnCycle : List Placed → List ℕ → Type 0
IsOnCycle policies name = Leads policies name name

-- whether a walk of at least one policy and at most so many leads from the one bucket to the other
unfoldable pub reaches : List Placed → ℕ → List ℕ → List ℕ → Bool
reaches policies zero from to = false
reaches policies (suc most) from to =
    list_any (λ step.
    same_text step.bucket from
    && (points step.policy
    && (same_text (target step.policy) to || reaches policies most (target step.policy) to)))
    policies

-- whether the bucket is on a cycle: no cycle needs more policies than there are buckets
abbrev pub is_on_cycle : Database → List ℕ → Bool
is_on_cycle database name = reaches database.policies (length database.buckets) name name
