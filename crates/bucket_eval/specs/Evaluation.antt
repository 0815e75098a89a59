-- What a bucket answers to a question. Each of its policies that matches contributes its result, or, where it points to
-- a bucket, what that one answers. NONE is left out. The least contribution decides, and where there is none the
-- fallback.
use Rattle.std.specs.Prelude.{ℕ, zero, suc, Bool, ◌==◌, if◌then◌else◌, List, [], length, map, filter, find, Option}
use Rattle.std.specs.Prelude.{None, Some}
use Rattle.std.specs.declared.cmp.Ordering.{Ordering}
use Rattle.std.specs.List.{filter_map}
use Rattle.std.specs.Option.{option_map_or}
use Rattle.std.specs.Ordering.{on, then_cmp}
use Rattle.cynara_keys.specs.Key.{key_matches, key_cmp}
use Rattle.cynara_keys.specs.Minimum.{first_least}
use Rattle.cynara_keys.specs.PolicyResult.{Ruling, deny, none, result_cmp}
use Rattle.cynara_keys.specs.Text.{same_text}
use Rattle.cynara_keys.specs.Key.{Key}
use Rattle.cynara_keys.specs.declared.keys.Policy.{Policy}
use Rattle.cynara_keys.specs.Key.{Question}
use Rattle.bucket_store.specs.Database.{Database, Heading}
use Rattle.bucket_store.specs.Walk.{points, target}

-- where a result was written: in a bucket, under a key or as the fallback
pub record Cause : Type 0 where
  pub bucket : List ℕ
  pub key : Option Key

pub record Outcome : Type 0 where
  pub result : Ruling
  pub cause : Cause

-- what a policy of the bucket contributes, and its own key
pub record Contribution : Type 0 where
  pub outcome : Outcome
  pub key : Key

-- contributions decide in the order of their results, and then of the keys of the bucket's own policies
abbrev pub contribution_cmp : Contribution → Contribution → Ordering
contribution_cmp =
    then_cmp (on (λ contribution. contribution.outcome.result) result_cmp)
    (on (λ contribution. contribution.key) key_cmp)

-- ---- a bucket of a database

abbrev pub policies_of : Database → List ℕ → List Policy
policies_of database name =
    map (λ placed. placed.policy) (filter (λ placed. same_text placed.bucket name) database.policies)

-- the fallback with the bucket as its cause; a bucket that isn't there denies
abbrev pub fallback_of : Database → List ℕ → Outcome
fallback_of database name = record {
  result = option_map_or (λ heading. heading.fallback)
      (find (λ (heading : Heading). same_text heading.name name) database.buckets)
      (record { kind = deny; metadata = [] });
  cause = record { bucket = name; key = None };
}

-- ---- what contributes

-- a policy's own result, or, where it points to a bucket and is to be followed, what that one answers
abbrev pub outcome_of : (List ℕ → Outcome) → Bool → List ℕ → Policy → Option Outcome
outcome_of below deep name policy =
    if points policy then (if deep then Some (below (target policy)) else None)
    else Some (record { result = policy.result; cause = record { bucket = name; key = Some policy.key } })

-- NONE is left out
abbrev pub counted : Key → Option Outcome → Option Contribution
counted key None = None
counted key (Some outcome) =
    if outcome.result.kind == none then None else Some (record { outcome = outcome; key = key })

-- what a policy of the bucket contributes, if anything
abbrev pub contribution : (List ℕ → Outcome) → Bool → List ℕ → Question → Policy → Option Contribution
contribution below deep name question policy =
    if key_matches policy.key question then counted policy.key (outcome_of below deep name policy) else None

-- ---- the answer

abbrev pub decided : Outcome → Option Contribution → Outcome
decided fallback None = fallback
decided fallback (Some contribution) = contribution.outcome

-- what the bucket answers, with less than so many policies in turn that point to a bucket
unfoldable pub answer_within : Database → Question → Bool → ℕ → List ℕ → Outcome
answer_within database question deep zero name = fallback_of database name
answer_within database question deep (suc most) name =
    let offered : List Contribution =
    filter_map (contribution (answer_within database question deep most) deep name question)
    (policies_of database name) in
    decided (fallback_of database name) (first_least contribution_cmp offered)

-- what the bucket answers: no walk along policies that point to a bucket has as many of them as there are buckets
abbrev pub answer : Database → List ℕ → Question → Bool → Outcome
answer database name question deep = answer_within database question deep (length database.buckets) name
