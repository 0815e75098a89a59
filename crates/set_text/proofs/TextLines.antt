-- A text, cut at its first newline, and what its lines give.
use Rattle.std.proofs.Common.{◌≡◌, ◌≢◌, ℕ, ◌+◌, ◌==◌, cond, true, false, List, [], ◌∷◌, ◌++◌, length, map, Option, Some}
use Rattle.std.proofs.Common.{None, Result, Ok, Err, refl, sym, ap, ◌∙◌, rules}
use Rattle.std.proofs.lemmas.Bool.{true≢false}
use Rattle.std.specs.Option.{option_map}
use Rattle.text_lines.specs.Lines.{HasNoNewline}
use Rattle.text_lines.proofs.Pieces.{pieces_of-newline, pieces_of-last}
use Rattle.std.specs.List.{onto_first}
use Rattle.set_text.specs.Lines.{is_semicolon, fields_of, whole_line, whole_lines, values_behind}

whole_line-newline : (line : List ℕ) → HasNoNewline line → whole_line (line ++ 10 ∷ []) ≡ Some line
whole_line-newline [] none = refl
whole_line-newline (byte ∷ bytes) none =
    ap (λ b. cond b (Some []) (option_map (λ line. byte ∷ line) (whole_line (bytes ++ 10 ∷ [])))) none.0
    ∙ ap (option_map (λ line. byte ∷ line)) (whole_line-newline bytes none.1)

whole_line-open : (line : List ℕ) → HasNoNewline line → whole_line line ≡ None
whole_line-open [] none = refl
whole_line-open (byte ∷ bytes) none =
    ap (λ b. cond b (Some []) (option_map (λ line. byte ∷ line) (whole_line bytes))) none.0
    ∙ ap (option_map (λ line. byte ∷ line)) (whole_line-open bytes none.1)

-- a line has a first field
pub fields_of-some : (line : List ℕ) → (first : List ℕ) × (rest : List (List ℕ)) × (fields_of line ≡ first ∷ rest)
fields_of-some [] = ([], [], refl)
fields_of-some (byte ∷ bytes) =
    let later = fields_of-some bytes in
    elim (is_semicolon byte) as (λ b. (first : List ℕ) × (rest : List (List ℕ))
    × (cond b ([] ∷ fields_of bytes) (onto_first byte (fields_of bytes)) ≡ first ∷ rest)) [
      | true ↦ ([], fields_of bytes, refl)
      | false ↦ (byte ∷ later.0, later.1, ap (onto_first byte) later.2)
    ]

-- the first line, where a newline ends it
pub whole_lines-newline : (line rest : List ℕ) → HasNoNewline line
    → whole_lines (line ++ 10 ∷ rest) ≡ Some line ∷ whole_lines rest
whole_lines-newline line rest none =
    ap (map whole_line) (pieces_of-newline line rest none)
    ∙ ap (λ first. first ∷ whole_lines rest) (whole_line-newline line none)

-- a text that has bytes and no newline
pub whole_lines-open : (text : List ℕ) → HasNoNewline text → text ≢ [] → whole_lines text ≡ None ∷ []
whole_lines-open [] none some = absurd (some refl)
whole_lines-open (byte ∷ bytes) none some =
    ap (map whole_line) (pieces_of-last byte bytes none) ∙ ap (λ line. line ∷ []) (whole_line-open (byte ∷ bytes) none)

pub some-length : (byte : ℕ) (bytes : List ℕ) → (length (byte ∷ bytes) == 0) ≡ false
some-length byte bytes = search rules

module _ {X : Type 0} (read : List X → List ℕ → Option X) (before : List X) where
  -- what a line gives, and the lines behind it
  with_line : List ℕ → Option X → Result (List X) ℕ
  with_line rest (Some value) = values_behind read (before ++ value ∷ []) (whole_lines rest)
  with_line rest None = Err (length before + 1)

  first_line : (text line rest : List ℕ) → text ≡ line ++ 10 ∷ rest → HasNoNewline line
      → values_behind read before (whole_lines text) ≡ with_line rest (read before line)
  unfolding with_line
  first_line text line rest is none =
      ap (λ text. values_behind read before (whole_lines text)) is
      ∙ ap (values_behind read before) (whole_lines-newline line rest none)
      ∙ elim (read before line) as (λ found. elim found as (λ found. Result (List X) ℕ) [
        | Some value ↦ values_behind read (before ++ value ∷ []) (whole_lines rest)
        | None ↦ Err (length before + 1)
      ]
      ≡ with_line rest found) [ Some value ↦ refl | None ↦ refl ]

  -- a line that gives a value
  pub values_behind-value : (text line rest : List ℕ) (value : X) → text ≡ line ++ 10 ∷ rest → HasNoNewline line
      → read before line ≡ Some value
      → values_behind read before (whole_lines text) ≡ values_behind read (before ++ value ∷ []) (whole_lines rest)
  unfolding with_line
  values_behind-value text line rest value is none gives = first_line text line rest is none ∙ ap (with_line rest) gives

  -- a line that gives none
  pub values_behind-wrong : (text line rest : List ℕ) → text ≡ line ++ 10 ∷ rest → HasNoNewline line
      → read before line ≡ None
      → values_behind read before (whole_lines text) ≡ Err (length before + 1)
  unfolding with_line
  values_behind-wrong text line rest is none gives = first_line text line rest is none ∙ ap (with_line rest) gives

  -- a last line without its newline
  pub values_behind-open : (text : List ℕ) → HasNoNewline text → text ≢ []
      → values_behind read before (whole_lines text) ≡ Err (length before + 1)
  values_behind-open text none some = ap (values_behind read before) (whole_lines-open text none some)

  -- no line is left
  pub values_behind-done : (text : List ℕ) → (length text == 0) ≡ true
      → values_behind read before (whole_lines text) ≡ Ok before
  values_behind-done [] none = refl
  values_behind-done (byte ∷ bytes) none = absurd (true≢false (sym none ∙ some-length byte bytes))

pub some-bytes : (text : List ℕ) → (length text == 0) ≡ false → text ≢ []
some-bytes text some none = true≢false (ap (λ text. length text == 0) (sym none) ∙ some)
