-- The text of values reads back as the values, where each line does.
use Rattle.std.proofs.Common.{◌≡◌, ℕ, List, [], ◌∷◌, ◌++◌, Option, Some, Ok, sym, ap, ◌∙◌, append_assoc, append-nil}
use Rattle.text_lines.specs.Lines.{HasNoNewline}
use Rattle.set_text.specs.Lines.{text_of, whole_lines, values_behind}
use Rattle.set_text.proofs.TextLines.{values_behind-value}

module _ {X : Type 0} (read : List X → List ℕ → Option X) (spell : X → List ℕ) where
  -- each value's line has no newline in it, and is read as the value behind those before it
  abbrev pub ReadBack : List X → List X → Type 0
  ReadBack before [] = Unit {0}
  ReadBack before (value ∷ values) =
      HasNoNewline (spell value) × (read before (spell value) ≡ Some value) × ReadBack (before ++ value ∷ []) values

  pub values-text : (before values : List X) → ReadBack before values
      → values_behind read before (whole_lines (text_of spell values)) ≡ Ok (before ++ values)
  values-text before [] back = ap (λ (values : List X). Ok values) (sym (append-nil before))
  values-text before (value ∷ values) back =
      values_behind-value read before (text_of spell (value ∷ values)) (spell value) (text_of spell values) value
      (append_assoc (spell value) (10 ∷ []) (text_of spell values)) back.0 back.1
      ∙ values-text (before ++ value ∷ []) values back.2
      ∙ ap (λ (values : List X). Ok values) (append_assoc before (value ∷ []) values)
