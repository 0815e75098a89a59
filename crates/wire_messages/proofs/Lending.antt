-- Messages whose parts are lent are heard: no field is wrong, and none is too long for a frame.
use Rattle.std.proofs.Common.{◌≡◌, ℕ, ◌+◌, ◌^◌, ◌<◌, ◌≤◌, Bool, true, false, cond, ltb, eqb, List, [], ◌∷◌, ◌++◌}
use Rattle.std.proofs.Common.{length, Option, Some, None, is_none, refl, ap, ◌∙◌, arith}
use Rattle.std.specs.Int.{w16, w64, to_be_bytes}
use Rattle.std.proofs.lemmas.Bool.{ltb-false}
use Rattle.std.proofs.lemmas.List.{length-append}
use Rattle.cynara_keys.specs.Field.{wildcard, field_text}
use Rattle.cynara_keys.specs.Name.{is_name, name_fault}
use Rattle.cynara_keys.specs.BucketName.{is_bucket_name}
use Rattle.cynara_keys.specs.Metadata.{is_metadata}
use Rattle.cynara_keys.specs.PolicyResult.{Ruling, may_carry}
use Rattle.cynara_keys.specs.Text.{same_text}
use Rattle.cynara_keys.specs.declared.bucket_names.BucketNameRefusal.{BucketNameRefusal}
use Rattle.cynara_keys.specs.declared.bucket_names.BucketNameRefusal.TheVariants.{TooLong as BucketTooLong}
use Rattle.cynara_keys.specs.declared.fields.Field.{Field}
use Rattle.cynara_keys.specs.declared.fields.Field.TheVariants.{Any, Exact}
use Rattle.cynara_keys.specs.declared.keys.Policy.{Policy}
use Rattle.cynara_keys.specs.declared.metadata_texts.MetadataRefusal.{MetadataRefusal}
use Rattle.cynara_keys.specs.declared.metadata_texts.MetadataRefusal.TheVariants.{TooLong as MetadataTooLong}
use Rattle.cynara_keys.specs.declared.names.NameRefusal.{NameRefusal}
use Rattle.cynara_keys.specs.declared.names.NameRefusal.TheVariants.{Empty, TooLong}
use Rattle.bucket_eval.specs.declared.answers.Row.{Row}
use Rattle.bucket_eval.specs.declared.answers.Verdict.{Verdict}
use Rattle.wire_fields.specs.declared.messages.Message.TheVariants.{Judged, ListRow}
use Rattle.wire_fields.specs.declared.operations.Heard.TheVariants.{Replies}
use Rattle.wire_fields.specs.Format.{text}
use Rattle.wire_fields.specs.Field as field
use Rattle.wire_reading.specs.Frame.{body, with_sequence}
use Rattle.wire_reading.specs.Hearing.{IsHeard}
use Rattle.wire_fields.specs.Message.{fields}
use Rattle.wire_fields.specs.Right.{IsField, IsFieldText, IsRuling, IsPolicy, IsOptionalRow, IsRightVerdict}
use Rattle.wire_fields.specs.Packed.{IsShortOptionalRow, IsShortVerdict}
use Rattle.wire_fields.proofs.FieldLaws.{same_is, and_both}

-- ---- texts are short

name_short : (bytes : List ℕ) → is_name bytes ≡ true → length bytes ≤ 255
name_short bytes is = by_cases (eqb (length bytes) 0) (ltb 255 (length bytes)) _ refl is
  where
    by_cases : (a b : Bool) (rest : Option NameRefusal) → ltb 255 (length bytes) ≡ b
        → is_none (cond a (Some Empty) (cond b (Some TooLong) rest)) ≡ true → length bytes ≤ 255
    by_cases true b rest long e = absurd cc
    by_cases false true rest long e = absurd cc
    by_cases false false rest long e = ltb-false _ _ long

bucket_short : (bytes : List ℕ) → is_bucket_name bytes ≡ true → length bytes ≤ 255
bucket_short bytes is = by_cases (ltb 64 (length bytes)) _ refl is
  where
    by_cases : (b : Bool) (rest : Option BucketNameRefusal) → ltb 64 (length bytes) ≡ b
        → is_none (cond b (Some BucketTooLong) rest) ≡ true → length bytes ≤ 255
    by_cases true rest long e = absurd cc
    by_cases false rest long e = (let few : length bytes ≤ 64 = ltb-false _ _ long in omega (arith, few))

metadata_short : (bytes : List ℕ) → is_metadata bytes ≡ true → length bytes ≤ 255
metadata_short bytes is = by_cases (ltb 255 (length bytes)) _ refl is
  where
    by_cases : (b : Bool) (rest : Option MetadataRefusal) → ltb 255 (length bytes) ≡ b
        → is_none (cond b (Some MetadataTooLong) rest) ≡ true → length bytes ≤ 255
    by_cases true rest long e = absurd cc
    by_cases false rest long e = ltb-false _ _ long

ruling_short : (ruling : Ruling) → IsRuling ruling → length ruling.metadata ≤ 255
ruling_short ruling is =
    metadata_short ruling.metadata
    (and_both (is_metadata ruling.metadata) (may_carry ruling.kind ruling.metadata) is.1).0

field_short : (one : Field) → IsField one → length (field_text one) ≤ 255
field_short Any is = omega arith
field_short (Exact name) is = name_short name is

field_text_short : (bytes : List ℕ) → IsFieldText bytes → length bytes ≤ 255
field_text_short bytes is = by_cases (same_text bytes wildcard) refl is
  where
    by_cases : (b : Bool) → same_text bytes wildcard ≡ b → is_none (cond b None (name_fault bytes)) ≡ true
        → length bytes ≤ 255
    by_cases true same e =
        (let one : length bytes ≡ 1 = ap length (same_is bytes wildcard same) in omega (arith, one))
    by_cases false same e = name_short bytes e

pub row_short : (row : Option Row) → IsOptionalRow row → IsShortOptionalRow row
row_short None is = tt
row_short (Some row) is =
    (field_text_short row.client is.0, (field_text_short row.user is.1.0, field_text_short row.privilege is.1.1))

pub verdict_short : (verdict : Verdict) → IsRightVerdict verdict → IsShortVerdict verdict
verdict_short verdict is = record {
  metadata = ruling_short _ is.1.0;
  bucket = bucket_short verdict.answer.cause.bucket is.1.1.0;
  row = row_short verdict.answer.cause.row is.1.1.1;
}

-- ---- fields are short

pub text_size : (bytes : List ℕ) → length (text.spelled bytes) ≡ 2 + length bytes
text_size bytes = length-append (to_be_bytes w16 (length bytes)) bytes

three_size : (a b c : List ℕ) → length a ≤ 255 → length b ≤ 255 → length c ≤ 255
    → length (text.spelled a ++ (text.spelled b ++ text.spelled c)) ≤ 771
three_size a b c short_a short_b short_c =
    omega (
      arith,
      length-append (text.spelled a) (text.spelled b ++ text.spelled c),
      length-append (text.spelled b) (text.spelled c),
      text_size a,
      text_size b,
      text_size c,
    )

ruling_size : (kind : ℕ) (metadata : List ℕ) → length metadata ≤ 255
    → length (to_be_bytes w16 kind ++ text.spelled metadata) ≤ 259
ruling_size kind metadata short =
    omega (arith, length-append (to_be_bytes w16 kind) (text.spelled metadata), text_size metadata)

pub row_size : (row : Option Row) → IsShortOptionalRow row → length ((field.optional field.row).spelled row) ≤ 772
row_size None is = omega arith
row_size (Some row) is =
    (let few = three_size row.client row.user row.privilege is.0 is.1.0 is.1.1 in omega (arith, few))

verdict_size : (verdict : Verdict) → IsShortVerdict verdict → length (field.verdict.spelled verdict) ≤ 1296
verdict_size verdict is =
    let commit = to_be_bytes w64 verdict.commit in
    let ruling = to_be_bytes w16 verdict.answer.kind.0 ++ text.spelled verdict.answer.metadata in
    let bucket = text.spelled verdict.answer.cause.bucket in
    let row = (field.optional field.row).spelled verdict.answer.cause.row in
    omega (
      arith,
      length-append commit (ruling ++ (bucket ++ row)),
      length-append ruling (bucket ++ row),
      length-append bucket row,
      ruling_size verdict.answer.kind.0 verdict.answer.metadata is.metadata,
      text_size verdict.answer.cause.bucket,
      is.bucket,
      row_size verdict.answer.cause.row is.row,
    )

policy_size : (policy : Policy) → IsPolicy policy → length (field.policy.spelled policy) ≤ 1030
policy_size policy is =
    let key = field.key.spelled policy.key in
    let ruling = to_be_bytes w16 policy.result.kind ++ text.spelled policy.result.metadata in
    omega (
      arith,
      length-append key ruling,
      three_size (field_text policy.key.client) (field_text policy.key.user) (field_text policy.key.privilege)
          (field_short policy.key.client is.0.0) (field_short policy.key.user is.0.1.0)
          (field_short policy.key.privilege is.0.1.1),
      ruling_size policy.result.kind policy.result.metadata (ruling_short policy.result is.1),
    )

-- ---- frames

-- what follows the length is three bytes longer than the fields
behind_size : (sequence operation : ℕ) (fields : List ℕ) (most : ℕ) → length fields ≤ most → most ≤ 1048573
    → length (to_be_bytes w16 sequence ++ (operation ∷ fields)) ≤ 1048576
behind_size sequence operation fields most few small =
    omega (arith, length-append (to_be_bytes w16 sequence) (operation ∷ fields))

pub verdict_fits : (sequence : ℕ) (verdict : Verdict) → IsShortVerdict verdict
    → length (body (with_sequence sequence (Judged verdict))) ≤ 1048576
verdict_fits sequence verdict is =
    behind_size sequence 129 (field.verdict.spelled verdict) 1296 (verdict_size verdict is) (omega arith)

pub verdict_heard : (sequence : ℕ) (verdict : Verdict) → sequence < 2 ^ 16 → IsRightVerdict verdict
    → IsHeard Replies (with_sequence sequence (Judged verdict))
verdict_heard sequence verdict small is = record {
  sequence = small;
  right = is;
  known = refl;
  short = verdict_fits sequence verdict (verdict_short verdict is);
}

pub row_heard : (sequence : ℕ) (policy : Policy) → sequence < 2 ^ 16 → IsPolicy policy
    → IsHeard Replies (with_sequence sequence (ListRow policy))
row_heard sequence policy small is = record {
  sequence = small;
  right = is;
  known = refl;
  short = behind_size sequence 146 (field.policy.spelled policy) 1030 (policy_size policy is) (omega arith);
}

-- what stands behind the four bytes of a length
pub behind_front : (frame rest : List ℕ) (most : ℕ) → frame ≡ (0 ∷ 0 ∷ 0 ∷ 0 ∷ []) ++ rest → length rest ≤ most
    → (4 ≤ length frame) × (length frame ≤ most + 4)
behind_front frame rest most is few =
    let size : length frame ≡ 4 + length rest = ap length is ∙ length-append (0 ∷ 0 ∷ 0 ∷ 0 ∷ []) rest in
    (omega (arith, size), omega (arith, size, few))
