-- What is known already of a question: for each bucket the places of its answer, or nothing.
use Rattle.std.specs.Prelude.{◌≡◌, ℕ, Bool, true, List, [], ◌∷◌, ◌==◌, if◌then◌else◌, Option, None, Some, is_some, ◌+◌}
use Rattle.std.specs.Prelude.{length, slice_get, option_and_then}
use Rattle.bucket_store.specs.Bucket.{Bucket}
use Rattle.bucket_store.specs.Database.{Placed, database_of}
use Rattle.bucket_store.specs.Walk.{IsStep, target}
use Rattle.cynara_keys.specs.declared.keys.Policy.{Policy}
use Rattle.bucket_eval.specs.Evaluation.{Outcome, Contribution, answer_within}
use Rattle.bucket_eval.specs.declared.nested.Asked.{Asked}
use Rattle.bucket_eval.specs.declared.nested.Looked.{Looked}
use Rattle.bucket_eval.specs.declared.nested.Looked.TheVariants.{Offered, Silent, Waits}
use Rattle.bucket_eval.specs.declared.nested.Reached.{Reached}
use Rattle.bucket_eval.specs.declared.nested.Reached.TheVariants.{Answers, Nothing, Waits as WaitsFor}
use Rattle.bucket_eval.specs.declared.slots.Slot.{Slot}
use Rattle.bucket_eval.specs.parts.Buckets.{outcome_in, Holds, Offers, offered}

-- the places of an answer: of its bucket, and there of the policy, or none for the fallback
pub record Spot : Type 0 where
  pub bucket : ℕ
  pub policy : Option ℕ

-- the number of a place, and the greatest of 32 bits where there is none
abbrev pub none_or : ℕ → Option ℕ
none_or number = if number == 4294967295 then None else Some number

abbrev pub spot_of : Slot → Option Spot
spot_of slot =
    if slot.bucket == 4294967295 then None else Some (record { bucket = slot.bucket; policy = none_or slot.policy })

abbrev pub spot_at : List Slot → ℕ → Option Spot
spot_at slots at = option_and_then spot_of (slice_get slots at)

abbrev pub is_known : List Slot → ℕ → Bool
is_known slots at = is_some (spot_at slots at)

abbrev pub outcome_of_spot : List Bucket → Spot → Option Outcome
outcome_of_spot buckets spot = option_and_then (outcome_in spot.policy) (slice_get buckets spot.bucket)

-- what a bucket answers to what is asked
abbrev pub answer_to : Asked → List ℕ → Outcome
answer_to asked =
    answer_within (database_of asked.buckets.now) asked.question.now asked.deep (length asked.buckets.now)

-- what a policy of a bucket contributes
abbrev pub offered_to : Asked → List ℕ → Policy → Option Contribution
offered_to asked name =
    offered asked.buckets.now asked.question.now asked.deep (length asked.buckets.now) name

-- what is known of a bucket is what it answers
abbrev pub AreSound : Asked → List Slot → Type 0
AreSound asked slots =
    (at : ℕ) (bucket : Bucket) (spot : Spot) → slice_get asked.buckets.now at ≡ Some bucket
    → spot_at slots at ≡ Some spot
    → outcome_of_spot asked.buckets.now spot ≡ Some (answer_to asked bucket.name)

-- as many slots, and what was known still is
pub record Grows (old new : List Slot) : Type 0 where
  pub room : length new ≡ length old
  pub known : (at : ℕ) → is_known old at ≡ true → is_known new at ≡ true

-- of how many buckets nothing is known
abbrev pub unknowns : List Slot → ℕ
unknowns [] = 0
unknowns (slot ∷ slots) = (if is_some (spot_of slot) then 0 else 1) + unknowns slots

-- a policy of the bucket points to the bucket at the place, of which nothing is known
pub record IsWaiting (asked : Asked) (slots : List Slot) (name : List ℕ) (below : ℕ) : Type 0 where
  pub bucket : Bucket
  pub there : slice_get asked.buckets.now below ≡ Some bucket
  pub step : Placed
  pub is : IsStep (database_of asked.buckets.now).policies name step
  pub target : target step.policy ≡ bucket.name
  pub unknown : spot_at slots below ≡ None

-- the outcome was reached, or there is none, or a bucket has to answer before
abbrev pub Reaches : Asked → List Slot → List ℕ → Option Outcome → Reached → Type 0
Reaches asked slots name outcome (Answers held) = Holds asked.buckets.now outcome (Some held)
Reaches asked slots name outcome Nothing = Holds asked.buckets.now outcome None
Reaches asked slots name outcome (WaitsFor below) = IsWaiting asked slots name below

-- the same of a contribution
abbrev pub Looks : Asked → List Slot → List ℕ → Option Contribution → Looked → Type 0
Looks asked slots name made (Offered offer) = Offers asked.buckets.now made (Some offer)
Looks asked slots name made Silent = Offers asked.buckets.now made None
Looks asked slots name made (Waits below) = IsWaiting asked slots name below
