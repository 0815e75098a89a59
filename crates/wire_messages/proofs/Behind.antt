-- A reply that is spelled behind other bytes.
use Rattle.std.proofs.Common.{◌≡◌, ℕ, ◌+◌, ◌≤◌, suc, List, ◌∷◌, ◌++◌, length, Option, sym, ap, ◌∙◌, arith}
use Rattle.std.specs.Int.{w16, w32, w64, to_be_bytes}
use Rattle.std.proofs.lemmas.List.{length-append}
use Rattle.bucket_eval.specs.declared.answers.Row.{Row}
use Rattle.bucket_eval.specs.declared.answers.Verdict.{Verdict}
use Rattle.wire_fields.specs.declared.messages.Message.TheVariants.{Judged}
use Rattle.wire_fields.specs.Format.{text}
use Rattle.wire_fields.specs.Field as field
use Rattle.wire_reading.specs.Frame.{body, spelling, with_sequence}
use Rattle.wire_fields.specs.Packed.{IsShortOptionalRow}
use Rattle.wire_messages.proofs.Lending.{row_size, text_size}

pub key_few : (flag : ℕ) (key : List ℕ) (row : Option Row) → flag ∷ key ≡ (field.optional field.row).spelled row
    → IsShortOptionalRow row → length key ≤ 771
key_few flag key row is few =
    let size : suc (length key) ≡ length ((field.optional field.row).spelled row) = ap length is in
    omega (arith, size, row_size row few)

abbrev pub head : ℕ → ℕ → ℕ → ℕ → ℕ → List ℕ
head size sequence commit kind count =
    to_be_bytes w32 size ++ (to_be_bytes w16 sequence ++ (129 ∷ (to_be_bytes w64 commit
    ++ (to_be_bytes w16 kind ++ to_be_bytes w16 count))))

abbrev behind_size : ℕ → ℕ → ℕ → ℕ → List ℕ
behind_size sequence commit kind count =
    to_be_bytes w16 sequence ++ (129 ∷ (to_be_bytes w64 commit ++ (to_be_bytes w16 kind ++ to_be_bytes w16 count)))

-- these parts are the frame of the verdict
pub parts_are : (sequence size flag : ℕ) (key : List ℕ) (verdict : Verdict)
    → flag ∷ key ≡ (field.optional field.row).spelled verdict.answer.cause.row
    → size ≡ 18 + length verdict.answer.metadata + length verdict.answer.cause.bucket + length key
    → (head size sequence verdict.commit verdict.answer.kind.0 (length verdict.answer.metadata)
    ++ verdict.answer.metadata) ++ (text.spelled verdict.answer.cause.bucket ++ (flag ∷ key))
    ≡ spelling (with_sequence sequence (Judged verdict))
parts_are sequence size flag key verdict is_key is_size =
    let metadata = verdict.answer.metadata in
    let bucket = verdict.answer.cause.bucket in
    let behind = text.spelled bucket ++ (flag ∷ key) in
    let front = behind_size sequence verdict.commit verdict.answer.kind.0 (length metadata) in
    let framed = with_sequence sequence (Judged verdict) in
    let same : (front ++ metadata) ++ behind ≡ body framed =
    ap (λ (r : List ℕ). (front ++ metadata) ++ (text.spelled bucket ++ r)) is_key in
    let many : length ((front ++ metadata) ++ behind) ≡ size =
    omega (
      arith,
      length-append (front ++ metadata) behind,
      length-append front metadata,
      length-append (text.spelled bucket) (flag ∷ key),
      text_size bucket,
      is_size,
    ) in
    let count : size ≡ length (body framed) = sym many ∙ ap length same in
    λ i. to_be_bytes w32 (count i) ++ same i
