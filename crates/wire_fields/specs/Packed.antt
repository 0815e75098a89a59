-- A verdict whose texts stand together.
use Rattle.std.specs.Prelude.{◌≤◌, ℕ, Bool, true, false, length, Option, Some, None}
use Rattle.bucket_eval.specs.declared.answers.Row.{Row}
use Rattle.bucket_eval.specs.declared.answers.Verdict.{Verdict}
use Rattle.cynara_keys.specs.Limits.{most_short_bytes}
use Rattle.cynara_keys.specs.declared.results.Kind.{Kind}
use Rattle.wire_fields.specs.parts.FiveTexts.{Texts}

-- the row's texts, where there is one
abbrev pub row : Bool → Texts → Option Row
row true texts = Some (record { client = texts.third; user = texts.fourth; privilege = texts.fifth })
row false texts = None

abbrev pub verdict : ℕ → Kind → Bool → Texts → Verdict
verdict commit kind has_row texts = record {
  commit = commit;
  answer = record {
    kind = kind;
    metadata = texts.first;
    cause = record { bucket = texts.second; row = row has_row texts };
  };
}

-- each text is short enough for a fixed place
pub record AreShort (texts : Texts) : Type 0 where
  pub first : length texts.first ≤ most_short_bytes
  pub second : length texts.second ≤ most_short_bytes
  pub third : length texts.third ≤ most_short_bytes
  pub fourth : length texts.fourth ≤ most_short_bytes
  pub fifth : length texts.fifth ≤ most_short_bytes

abbrev pub IsShortRow : Row → Type 0
IsShortRow row =
    (length row.client ≤ most_short_bytes)
    × ((length row.user ≤ most_short_bytes) × (length row.privilege ≤ most_short_bytes))

abbrev pub IsShortOptionalRow : Option Row → Type 0
IsShortOptionalRow None = Unit {0}
IsShortOptionalRow (Some row) = IsShortRow row

-- each text of a verdict is short enough for a fixed place
pub record IsShortVerdict (verdict : Verdict) : Type 0 where
  pub metadata : length verdict.answer.metadata ≤ most_short_bytes
  pub bucket : length verdict.answer.cause.bucket ≤ most_short_bytes
  pub row : IsShortOptionalRow verdict.answer.cause.row
