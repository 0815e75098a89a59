-- What is known of the buckets' answers while a question is answered by sheets.
use Rattle.std.specs.Prelude.{◌≡◌, ◌≤◌, ℕ, Bool, true, ◌==◌, ◌||◌, List}
use Rattle.std.specs.Prelude.{length, Option, None, Some, is_some, slice_get, if◌then◌else◌}
use Rattle.std.specs.Prelude.{option_and_then}
use Rattle.std.specs.Ordering.{is_gt}
use Rattle.std.specs.List.{filter_map}
use Rattle.cynara_keys.specs.Minimum.{first_least}
use Rattle.cynara_keys.specs.PolicyResult.{allow, deny}
use Rattle.cynara_keys.specs.declared.keys.Policy.{Policy}
use Rattle.bucket_store.specs.Bucket.{Bucket}
use Rattle.bucket_store.specs.Database.{database_of}
use Rattle.bucket_store.specs.Walk.{points, target}
use Rattle.bucket_store.specs.WellFormed.{IsKept}
use Rattle.bucket_eval.specs.Evaluation.{Outcome, Contribution, answer_within, contribution_cmp, counted}
use Rattle.bucket_eval.specs.declared.deciding.Asking.{Asking}
use Rattle.bucket_eval.specs.declared.deciding.Known.{Known}
use Rattle.bucket_eval.specs.declared.deciding.Weighed.{Weighed}
use Rattle.bucket_eval.specs.declared.sheets.Filed.{Filed}
use Rattle.bucket_eval.specs.parts.Buckets.{combined, offered}
use Rattle.bucket_eval.specs.parts.Ends.{EndsWithin}
use Rattle.bucket_eval.specs.parts.Marks.{AreMarks}
use Rattle.bucket_eval.specs.parts.Shapes.{FitsAt, below_shape}
use Rattle.bucket_eval.specs.parts.Sheets.{AreSheets, IsFiled}
use Rattle.bucket_eval.specs.parts.Slots.{outcome_of_spot, spot_of}

-- what a bucket answers to what is asked
abbrev pub answer_of : Asking → List ℕ → Outcome
answer_of asking =
    answer_within (database_of asking.buckets.now) asking.question.now true (length asking.buckets.now)

-- what a policy of a bucket contributes
abbrev pub offers_of : Asking → List ℕ → Policy → Option Contribution
offers_of asking name = offered asking.buckets.now asking.question.now true (length asking.buckets.now) name

-- the outcome that was found
abbrev pub outcome_known : List Bucket → Known → Option Outcome
outcome_known buckets known = option_and_then (outcome_of_spot buckets) (spot_of known.slot)

-- whether something is known of the bucket at the place
abbrev pub is_answered : List Known → ℕ → Bool
is_answered slots at = is_some (option_and_then (λ known. spot_of known.slot) (slice_get slots at))

-- what is known is this outcome
pub record IsKnown (buckets : List Bucket) (outcome : Outcome) (known : Known) : Type 0 where
  pub there : outcome_known buckets known ≡ Some outcome
  pub kind : known.kind ≡ outcome.result.kind

-- what is known of a bucket is what it answers
abbrev pub AreAnswers : Asking → List Known → Type 0
AreAnswers asking slots =
    (at : ℕ) (bucket : Bucket) (known : Known) → slice_get asking.buckets.now at ≡ Some bucket
    → slice_get slots at ≡ Some known → is_some (spot_of known.slot) ≡ true
    → IsKnown asking.buckets.now (answer_of asking bucket.name) known

-- the sheets are those of the buckets, and the marks those of the question, by the same names
pub record IsRight (asking : Asking) : Type 0 where
  pub names : List (List ℕ)
  pub kept : IsKept asking.buckets.now
  pub sheets : AreSheets names asking.buckets.now asking.sheets.now
  pub marks : AreMarks names asking.question.now asking.marks.now

pub record IsReady (asking : Asking) (slots : List Known) : Type 0 where
  pub right : IsRight asking
  pub room : length asking.buckets.now ≤ length slots
  pub answers : AreAnswers asking slots

-- ---- of the bucket at a place

-- each walk from it has fewer policies than this
abbrev pub EndsAt : Asking → ℕ → ℕ → Type 0
EndsAt asking at left =
    (bucket : Bucket) → slice_get asking.buckets.now at ≡ Some bucket
    → EndsWithin (database_of asking.buckets.now).policies left bucket.name

-- this is what it answers
abbrev pub AnswersAt : Asking → ℕ → Known → Type 0
AnswersAt asking at known =
    (bucket : Bucket) → slice_get asking.buckets.now at ≡ Some bucket
    → IsKnown asking.buckets.now (answer_of asking bucket.name) known

-- one of its policies is as it is filed
abbrev pub FiledAt : Asking → ℕ → Filed → Type 0
FiledAt asking at filed =
    (bucket : Bucket) → slice_get asking.buckets.now at ≡ Some bucket
    → IsFiled asking.buckets.now bucket.policies filed

-- what a policy answers, or the bucket that it points to
abbrev pub outcome_followed : Asking → List ℕ → Policy → Outcome
outcome_followed asking name policy =
    if points policy then answer_of asking (target policy)
    else record { result = policy.result; cause = record { bucket = name; key = Some policy.key } }

abbrev pub FollowsAt : Asking → ℕ → ℕ → Known → Type 0
FollowsAt asking at place known =
    (bucket : Bucket) (policy : Policy) → slice_get asking.buckets.now at ≡ Some bucket
    → slice_get bucket.policies place ≡ Some policy
    → IsKnown asking.buckets.now (outcome_followed asking bucket.name policy) known

-- the policy of the shape that matches the question is this one, or there is none
abbrev pub Fits : Asking → ℕ → List Policy → Option Filed → Type 0
Fits asking shape policies None = FitsAt asking.question.now shape policies None
Fits asking shape policies (Some filed) =
    FitsAt asking.question.now shape policies (Some filed.place) × IsFiled asking.buckets.now policies filed

abbrev pub FitsIn : Asking → ℕ → ℕ → Option Filed → Type 0
FitsIn asking at shape filed =
    (bucket : Bucket) → slice_get asking.buckets.now at ≡ Some bucket → Fits asking shape bucket.policies filed

-- ---- contributions

-- this is a contribution, of the policy at the place
pub record IsWeighed (buckets : List Bucket) (policies : List Policy) (made : Contribution) (weighed : Weighed) :
    Type 0 where
  pub known : IsKnown buckets made.outcome weighed.known
  pub policy : Policy
  pub there : slice_get policies weighed.place ≡ Some policy
  pub key : policy.key ≡ made.key

-- this is the contribution, or there is none
abbrev pub IsLeast : List Bucket → List Policy → Option Contribution → Option Weighed → Type 0
IsLeast buckets policies None None = Unit {0}
IsLeast buckets policies None (Some weighed) = ⊥
IsLeast buckets policies (Some made) None = ⊥
IsLeast buckets policies (Some made) (Some weighed) = IsWeighed buckets policies made weighed

-- the least contribution of the bucket's policies
abbrev pub IsLeastAt : Asking → ℕ → Option Weighed → Type 0
IsLeastAt asking at best =
    (bucket : Bucket) → slice_get asking.buckets.now at ≡ Some bucket
    → IsLeast asking.buckets.now bucket.policies
    (first_least contribution_cmp (filter_map (offers_of asking bucket.name) bucket.policies)) best

-- the same of the policies whose shapes are below this one
abbrev pub IsLeastBelow : Asking → ℕ → ℕ → Option Weighed → Type 0
IsLeastBelow asking at shape best =
    (bucket : Bucket) → slice_get asking.buckets.now at ≡ Some bucket
    → IsLeast asking.buckets.now bucket.policies
    (first_least contribution_cmp (filter_map (below_shape shape (offers_of asking bucket.name)) bucket.policies)) best

-- it is some contribution
pub record IsSomeWeighed (buckets : List Bucket) (policies : List Policy) (weighed : Weighed) : Type 0 where
  pub made : Contribution
  pub is : IsWeighed buckets policies made weighed

abbrev pub IsWeighedAt : Asking → ℕ → Weighed → Type 0
IsWeighedAt asking at weighed =
    (bucket : Bucket) → slice_get asking.buckets.now at ≡ Some bucket
    → IsSomeWeighed asking.buckets.now bucket.policies weighed

abbrev pub IsBestOf : List Bucket → List Policy → Option Weighed → Type 0
IsBestOf buckets policies None = Unit {0}
IsBestOf buckets policies (Some weighed) = IsSomeWeighed buckets policies weighed

abbrev pub IsBestAt : Asking → ℕ → Option Weighed → Type 0
IsBestAt asking at best =
    (bucket : Bucket) → slice_get asking.buckets.now at ≡ Some bucket → IsBestOf asking.buckets.now bucket.policies best

-- results of these kinds have no metadata
abbrev pub is_bare : ℕ → Bool
is_bare kind = kind == deny || kind == allow

-- whether the one contribution comes after the other
abbrev pub IsOrderAt : Asking → ℕ → Weighed → Weighed → Bool → Type 0
IsOrderAt asking at offer other after =
    (bucket : Bucket) (made last : Contribution) → slice_get asking.buckets.now at ≡ Some bucket
    → IsWeighed asking.buckets.now bucket.policies made offer
    → IsWeighed asking.buckets.now bucket.policies last other
    → after ≡ is_gt (contribution_cmp made last)

-- the lesser of the best and what came of the policy at a place, where NONE is left out
abbrev pub IsLesserAt : Asking → ℕ → ℕ → Known → Option Weighed → Option Weighed → Type 0
IsLesserAt asking at place known best result =
    (bucket : Bucket) (policy : Policy) (outcome : Outcome) (least : Option Contribution)
    → slice_get asking.buckets.now at ≡ Some bucket
    → slice_get bucket.policies place ≡ Some policy → IsKnown asking.buckets.now outcome known
    → IsLeast asking.buckets.now bucket.policies least best
    → IsLeast asking.buckets.now bucket.policies
    (combined contribution_cmp (counted policy.key (Some outcome)) least) result
