-- Policies that are found by sheets, and what is known of buckets.
use Rattle.std.proofs.Common.{◌≡◌, ◌≢◌, ℕ, ◌<◌, ◌≤◌, true, List, length, slice_get, get_or, Option, None, Some}
use Rattle.std.proofs.Common.{option_and_then, is_some, refl, sym, ap, ◌∙◌, subst, arith, inl, inr, length-set}
use Rattle.std.proofs.Math.ListN.{set}
use Rattle.std.specs.Option.{option_map}
use Rattle.std.proofs.lemmas.Bool.{cases_eq}
use Rattle.std.proofs.lemmas.Option.{get_or_from_slice_get, same_Some, slice_get_within}
use Rattle.bucket_store.specs.Bucket.{Bucket}
use Rattle.bucket_eval.specs.Evaluation.{Outcome}
use Rattle.bucket_eval.specs.declared.deciding.Asking.{Asking}
use Rattle.bucket_eval.specs.declared.deciding.Known.{Known}
use Rattle.bucket_eval.specs.declared.sheets.Filed.{Filed}
use Rattle.bucket_eval.specs.declared.sheets.Sheet.{Sheet}
use Rattle.bucket_eval.specs.parts.Deciding.{Fits, IsKnown, IsReady, IsRight, answer_of}
use Rattle.bucket_eval.specs.parts.Numbers.{mark_of}
use Rattle.bucket_eval.specs.parts.Shapes.{sought}
use Rattle.bucket_eval.specs.parts.Sheets.{IsFiled, IsGap, IsSheetOf, PointsTo, TargetsAt, filed_in, places_by}
use Rattle.bucket_eval.specs.parts.Slots.{Spot, none_or, outcome_of_spot, spot_of}
use Rattle.bucket_eval.proofs.ByShape.{FitsAt-found, FitsAt-other}
use Rattle.bucket_eval.proofs.Kept.{rising-at}
use Rattle.bucket_eval.proofs.Known.{element-at, get-set, get-set-other, length-policies}
use Rattle.bucket_eval.proofs.Marks.{placed-stands, placed-ties, shape-fits, shape-misfits, unmarked-fits, unplaced-fits}

-- the sheet of a bucket is there
pub sheet-at : (asking : Asking) (at : ℕ) (bucket : Bucket) → IsRight asking
    → slice_get asking.buckets.now at ≡ Some bucket
    → (sheet : Sheet) × (slice_get asking.sheets.now at ≡ Some sheet)
sheet-at asking at bucket right there =
    let within = slice_get_within asking.buckets.now at bucket there in
    let count = right.sheets.count in
    element-at asking.sheets.now at (omega (arith, within, count))

-- where a policy that is filed points to
pub points-at : (asking : Asking) (at : ℕ) (bucket : Bucket) (filed : Filed) (target : ℕ)
    → (there : slice_get asking.buckets.now at ≡ Some bucket)
    → (filing : (b : Bucket) → slice_get asking.buckets.now at ≡ Some b → IsFiled asking.buckets.now b.policies filed)
    → none_or filed.target ≡ Some target
    → PointsTo asking.buckets.now (filing bucket there).policy target
points-at asking at bucket filed target there filing is =
    subst (TargetsAt asking.buckets.now (filing bucket there).policy) is (filing bucket there).target

-- the next shape
pub gap-at : (asking : Asking) (at : ℕ) (bucket : Bucket) → IsRight asking → slice_get asking.buckets.now at ≡ Some bucket
    → (sheet : Sheet) → slice_get asking.sheets.now at ≡ Some sheet → (from to : ℕ) → slice_get sheet.next from ≡ Some to
    → IsGap bucket.policies from to
gap-at asking at bucket right there sheet sheet_there from to is =
    (right.sheets.each at bucket sheet there sheet_there).gaps from to is

-- ---- the policy of a shape

module _ (asking : Asking) (at : ℕ) (bucket : Bucket) (right : IsRight asking)
    (there : slice_get asking.buckets.now at ≡ Some bucket) (sheet : Sheet)
    (sheet_there : slice_get asking.sheets.now at ≡ Some sheet) (shape : ℕ) (less : shape < 8) where
  is-sheet : IsSheetOf right.names asking.buckets.now bucket sheet
  is-sheet = right.sheets.each at bucket sheet there sheet_there

  mark-is : (mark : Option ℕ) → slice_get asking.marks.now shape ≡ Some mark
      → mark_of right.names (sought asking.question.now shape) ≡ mark
  mark-is mark is = same_Some _ _ (sym (right.marks.each shape less) ∙ is)

  pub fits-unmarked : slice_get asking.marks.now shape ≡ Some None
      → Fits asking shape bucket.policies None
  fits-unmarked is =
      unmarked-fits right.names bucket.policies (places_by (filed_in sheet)) is-sheet.marked asking.question.now shape
      (mark-is None is)

  module _ (mark : ℕ) (marked : slice_get asking.marks.now shape ≡ Some (Some mark)) where
    place-is : (filed : Option Filed) → filed_in sheet mark ≡ filed
        → places_by (filed_in sheet) mark ≡ option_map (λ (one : Filed). one.place) filed
    place-is filed is = ap (option_map (λ (one : Filed). one.place)) is

    pub fits-unfiled : filed_in sheet mark ≡ None → Fits asking shape bucket.policies None
    fits-unfiled none =
        unplaced-fits right.names bucket.policies (places_by (filed_in sheet)) is-sheet.marked asking.question.now shape mark
        (mark-is (Some mark) marked) (place-is None none)

    module _ (filed : Filed) (is : filed_in sheet mark ≡ Some filed) where
      is-filed : IsFiled asking.buckets.now bucket.policies filed
      is-filed = is-sheet.filed mark filed is

      policy-is : is-filed.policy ≡ get_or bucket.policies filed.place is-filed.policy
      policy-is =
          sym (get_or_from_slice_get bucket.policies filed.place is-filed.policy is-filed.policy is-filed.there)

      pub fits-filed : filed.shape ≡ shape → Fits asking shape bucket.policies (Some filed)
      fits-filed same = (
        FitsAt-found asking.question.now shape bucket.policies filed.place is-filed.policy
            (placed-stands right.names bucket.policies (places_by (filed_in sheet)) is-sheet.marked asking.question.now shape
            mark filed.place (rising-at asking.buckets.now at bucket right.kept.keys_rise there)
            (mark-is (Some mark) marked) (place-is (Some filed) is))
            policy-is
            (shape-fits is-filed.policy asking.question.now shape (sym is-filed.shape ∙ same)
            (placed-ties right.names bucket.policies (places_by (filed_in sheet)) is-sheet.marked asking.question.now shape
            mark filed.place is-filed.policy (mark-is (Some mark) marked) (place-is (Some filed) is) is-filed.there)),
        is-filed,
      )

      pub fits-other : filed.shape ≢ shape → Fits asking shape bucket.policies None
      fits-other apart =
          FitsAt-other asking.question.now shape bucket.policies filed.place is-filed.policy
          (placed-stands right.names bucket.policies (places_by (filed_in sheet)) is-sheet.marked asking.question.now shape
          mark filed.place (rising-at asking.buckets.now at bucket right.kept.keys_rise there)
          (mark-is (Some mark) marked) (place-is (Some filed) is))
          policy-is
          (shape-misfits is-filed.policy asking.question.now shape (λ same. apart (is-filed.shape ∙ same)))

-- the place of a policy that is filed has 16 bits
pub filed-few : (asking : Asking) (at : ℕ) (bucket : Bucket) (filed : Filed) → IsRight asking
    → slice_get asking.buckets.now at ≡ Some bucket → IsFiled asking.buckets.now bucket.policies filed
    → filed.place < 65536
filed-few asking at bucket filed right there is =
    let within = slice_get_within bucket.policies filed.place is.policy is.there in
    let few = right.kept.sound.policies in
    omega (arith, within, few, length-policies asking.buckets.now at bucket there)

-- ---- what is known of buckets

pub ready-set : (asking : Asking) (slots : List Known) (at : ℕ) (known : Known) → IsReady asking slots
    → at < length asking.buckets.now
    → ((bucket : Bucket) → slice_get asking.buckets.now at ≡ Some bucket
    → IsKnown asking.buckets.now (answer_of asking bucket.name) known)
    → IsReady asking (set slots at known)
ready-set asking slots at known ready within is =
    let room = ready.room in record {
      right = ready.right;
      room = subst (λ n. length asking.buckets.now ≤ n) (sym (length-set slots at known)) ready.room;
      answers = λ k bucket other there other_there some. elim (cases_eq k at) [
        | inl same ↦
            (let own : known ≡ other =
            same_Some _ _ (sym (get-set slots at known (omega (arith, room, within)))
            ∙ ap (slice_get (set slots at known)) (sym same) ∙ other_there) in
            subst (IsKnown asking.buckets.now (answer_of asking bucket.name)) own
            (is bucket (ap (slice_get asking.buckets.now) (sym same) ∙ there)))
        | inr apart ↦
            ready.answers k bucket other there (sym (get-set-other slots at k known apart) ∙ other_there) some
      ];
    }

-- what is known has a place
pub known-there : (buckets : List Bucket) (outcome : Outcome) (known : Known) → IsKnown buckets outcome known
    → is_some (spot_of known.slot) ≡ true
known-there buckets outcome known is = by-case (spot_of known.slot) is.there
  where
    by-case : (spot : Option Spot) → option_and_then (outcome_of_spot buckets) spot ≡ Some outcome → is_some spot ≡ true
    by-case None none = cc
    by-case (Some spot) some = refl
