-- What a sheet says of the policies of a bucket.
use Rattle.std.specs.Prelude.{◌≡◌, ◌<◌, ◌≤◌, ◌==◌, ℕ, nat_eq, Bool, true, false}
use Rattle.std.specs.Prelude.{not, if◌then◌else◌, List, length, Option, None, Some, slice_get}
use Rattle.std.specs.HashMap.{get}
use Rattle.std.specs.Option.{option_map}
use Rattle.cynara_keys.specs.declared.keys.Policy.{Policy}
use Rattle.bucket_store.specs.Bucket.{Bucket}
use Rattle.bucket_store.specs.Database.{Database, database_of}
use Rattle.bucket_store.specs.Walk.{points, target}
use Rattle.bucket_store.specs.WellFormed.{IsKept}
use Rattle.bucket_eval.specs.declared.sheets.Draft.{Draft}
use Rattle.bucket_eval.specs.declared.sheets.Filed.{Filed}
use Rattle.bucket_eval.specs.declared.sheets.Marked.{Marked}
use Rattle.bucket_eval.specs.declared.sheets.Sheet.{Sheet}
use Rattle.bucket_eval.specs.parts.Numbers.{IsTable}
use Rattle.bucket_eval.specs.parts.Shapes.{shape_of}
use Rattle.bucket_eval.specs.parts.Slots.{none_or}

-- ---- one policy

-- a policy points to the bucket at the place
pub record PointsTo (buckets : List Bucket) (policy : Policy) (at : ℕ) : Type 0 where
  pub points : points policy ≡ true
  pub bucket : Bucket
  pub there : slice_get buckets at ≡ Some bucket
  pub name : bucket.name ≡ target policy

-- where a policy points to, or that it does not point
abbrev pub TargetsAt : List Bucket → Policy → Option ℕ → Type 0
TargetsAt buckets policy None = points policy ≡ false
TargetsAt buckets policy (Some at) = PointsTo buckets policy at

-- the same, by the number of no place
abbrev pub TargetIs : List Bucket → Policy → ℕ → Type 0
TargetIs buckets policy at = TargetsAt buckets policy (none_or at)

-- the policy at the place that is filed is as it is filed
pub record IsFiled (buckets : List Bucket) (policies : List Policy) (filed : Filed) : Type 0 where
  pub policy : Policy
  pub there : slice_get policies filed.place ≡ Some policy
  pub kind : filed.kind ≡ policy.result.kind
  pub shape : filed.shape ≡ shape_of policy.key
  pub target : TargetIs buckets policy filed.target

-- ---- all policies of a bucket

-- the first policy where the mark is its own, and else what is found
abbrev pub first_or : Option Marked → Option Filed → ℕ → Option Filed
first_or None found mark = found
first_or (Some first) found mark = if mark == first.mark then Some first.filed else found

-- there is a first policy, of another mark
abbrev pub is_behind : Option Marked → ℕ → Bool
is_behind None mark = false
is_behind (Some first) mark = not (mark == first.mark)

abbrev pub filed_in : Sheet → ℕ → Option Filed
filed_in sheet mark = first_or sheet.first (get nat_eq sheet.filed mark) mark

abbrev pub drafted_in : Draft → ℕ → Option Filed
drafted_in draft mark = first_or draft.first (get nat_eq draft.filed mark) mark

-- the places of what is filed
abbrev pub places_by : (ℕ → Option Filed) → ℕ → Option ℕ
places_by filed mark = option_map (λ one. one.place) (filed mark)

abbrev pub AreFiled : List Bucket → List Policy → (ℕ → Option Filed) → Type 0
AreFiled buckets policies filed = (mark : ℕ) (one : Filed) → filed mark ≡ Some one → IsFiled buckets policies one

-- no policy has a shape that is said not to be there
abbrev pub IsShapedTo : List Policy → List Bool → ℕ → Type 0
IsShapedTo policies shapes count =
    (place : ℕ) (policy : Policy) → place < count → slice_get policies place ≡ Some policy
    → slice_get shapes (shape_of policy.key) ≡ Some false → ⊥

abbrev pub IsShaped : List Policy → List Bool → Type 0
IsShaped policies shapes =
    (place : ℕ) (policy : Policy) → slice_get policies place ≡ Some policy
    → slice_get shapes (shape_of policy.key) ≡ Some false → ⊥

-- the next shape is no less, and those between are not there
pub record IsNextOf (shapes : List Bool) (from to : ℕ) : Type 0 where
  pub order : from ≤ to
  pub between : (shape : ℕ) → from ≤ shape → shape < to → slice_get shapes shape ≡ Some false

-- so it is of each shape from this one on
abbrev pub AreNext : List Bool → List ℕ → ℕ → Type 0
AreNext shapes next least = (from to : ℕ) → least ≤ from → slice_get next from ≡ Some to → IsNextOf shapes from to

-- no policy has a shape from this one on and before the other
pub record IsGap (policies : List Policy) (from to : ℕ) : Type 0 where
  pub order : from ≤ to
  pub between : (place : ℕ) (policy : Policy) → slice_get policies place ≡ Some policy → from ≤ shape_of policy.key
      → shape_of policy.key < to → ⊥

-- the sheet is that of the bucket
pub record IsSheetOf (names : List (List ℕ)) (buckets : List Bucket) (bucket : Bucket) (sheet : Sheet) : Type 0 where
  pub marked : IsTable names bucket.policies (places_by (filed_in sheet))
  pub filed : AreFiled buckets bucket.policies (filed_in sheet)
  pub gaps : (from to : ℕ) → slice_get sheet.next from ≡ Some to → IsGap bucket.policies from to
  pub fallback : sheet.fallback ≡ bucket.fallback.kind

-- the same of the bucket at a place
abbrev pub IsSheetAt : List (List ℕ) → List Bucket → ℕ → Sheet → Type 0
IsSheetAt names buckets at sheet =
    (bucket : Bucket) → slice_get buckets at ≡ Some bucket → IsSheetOf names buckets bucket sheet

-- each sheet is that of the bucket at its place
abbrev pub EachIsSheet : List (List ℕ) → List Bucket → List Sheet → Type 0
EachIsSheet names buckets sheets =
    (at : ℕ) (bucket : Bucket) (sheet : Sheet) → slice_get buckets at ≡ Some bucket → slice_get sheets at ≡ Some sheet
    → IsSheetOf names buckets bucket sheet

pub record AreSheets (names : List (List ℕ)) (buckets : List Bucket) (sheets : List Sheet) : Type 0 where
  pub count : length sheets ≡ length buckets
  pub each : EachIsSheet names buckets sheets

-- the same, whichever buckets the database is seen as
abbrev pub AreSheetsOf : List (List ℕ) → Database → List Sheet → Type 0
AreSheetsOf names database sheets =
    (buckets : List Bucket) → database_of buckets ≡ database → IsKept buckets → AreSheets names buckets sheets
