-- A line as a list of words, and as a run along its bytes.
use Rattle.std.proofs.Common.{◌≡◌, ℕ, Bool, true, false, not, cond, List, [], ◌∷◌, ◌++◌, length, Option, Some, None}
use Rattle.std.proofs.Common.{refl, sym, ap, ◌∙◌, append_assoc, append-nil}
use Rattle.std.specs.Prelude.{◌==◌, filter, option_and_then}
use Rattle.std.specs.List.{slice_split, onto_first}
use Rattle.smack_rules.specs.Words.{is_blank, words_of as blank_words_of}
use Rattle.script_words.specs.Words.{words_of}
use Rattle.line_reasons.specs.declared.forms.Form.{Form}
use Rattle.line_reasons.specs.parts.Runs.{parts_words, is_gap, behind_word, behind_part, may_end, may_end_with, stand}
use Rattle.line_reasons.specs.parts.Runs.{run, ends_at, holds_at, is_line_of}
use Rattle.line_reasons.proofs.Runs.{some_bytes}

abbrev pub holds_left : (List Form → Bool) → Option (List Form) → Bool
holds_left test None = false
holds_left test (Some left) = test left

-- words of these forms, to the last
abbrev pub fits : List Form → List (List ℕ) → Bool
fits forms [] = may_end forms
fits forms (word ∷ words) = holds_left (λ left. fits left words) (behind_word forms word)

-- bytes in front of the first word
abbrev joined : List ℕ → List (List ℕ) → List (List ℕ)
joined part [] = part ∷ []
joined part (first ∷ rest) = (part ++ first) ∷ rest

joined-none : (test : ℕ → Bool) (line : List ℕ) → joined [] (slice_split test line) ≡ slice_split test line
joined-none test [] = refl
joined-none test (byte ∷ bytes) = by_byte (test byte) (slice_split test bytes) where
  by_byte : (parts : Bool) (words : List (List ℕ))
      → joined [] (cond parts ([] ∷ words) (onto_first byte words)) ≡ cond parts ([] ∷ words) (onto_first byte words)
  by_byte true words = refl
  by_byte false [] = refl
  by_byte false (first ∷ rest) = refl

some_by : (byte : ℕ) (parts : Bool) (words : List (List ℕ)) → (first : List ℕ) × (rest : List (List ℕ))
    × (cond parts ([] ∷ words) (onto_first byte words) ≡ first ∷ rest)
some_by byte true words = ([], words, refl)
some_by byte false [] = (byte ∷ [], [], refl)
some_by byte false (first ∷ rest) = (byte ∷ first, rest, refl)

-- a line has a first part
some : (test : ℕ → Bool) (line : List ℕ) → (first : List ℕ) × (rest : List (List ℕ))
    × (slice_split test line ≡ first ∷ rest)
some test [] = ([], [], refl)
some test (byte ∷ bytes) = some_by byte (test byte) (slice_split test bytes)

joined-onto : (part : List ℕ) (byte : ℕ) (test : ℕ → Bool) (line : List ℕ)
    → joined part (onto_first byte (slice_split test line)) ≡ joined (part ++ byte ∷ []) (slice_split test line)
joined-onto part byte test line = by_words (slice_split test line) (some test line) where
  by_words : (words : List (List ℕ)) → ((first : List ℕ) × (rest : List (List ℕ)) × (words ≡ first ∷ rest))
      → joined part (onto_first byte words) ≡ joined (part ++ byte ∷ []) words
  by_words [] found = (let none = found.2 in cc)
  by_words (first ∷ rest) found = ap (λ word. word ∷ rest) (sym (append_assoc part (byte ∷ []) first))

abbrev kept : Bool → List (List ℕ) → List (List ℕ)
kept blanks words = filter (λ part. not (is_gap blanks part)) words

module _ (blanks : Bool) where
  last_word : (forms : List Form) (part : List ℕ)
      → ends_at blanks (stand forms part) ≡ fits forms (kept blanks (part ∷ []))
  last_word forms part = by_gap (is_gap blanks part) where
    by_left : (left : Option (List Form)) → may_end_with left ≡ holds_left (λ left. fits left []) left
    by_left None = refl
    by_left (Some left) = refl

    by_gap : (gap : Bool) → may_end_with (cond gap (Some forms) (behind_word forms part))
        ≡ fits forms (cond (not gap) (part ∷ []) [])
    by_gap true = refl
    by_gap false = by_left (behind_word forms part)

  more_words : (forms : List Form) (part bytes : List ℕ) (words : List (List ℕ))
      → ((left : List Form) → holds_at (ends_at blanks) (run blanks (stand left []) bytes) ≡ fits left
      (kept blanks words))
      → holds_at (ends_at blanks) (option_and_then (λ next. run blanks next bytes)
      (option_and_then (λ left. Some (stand left [])) (behind_part blanks forms part)))
      ≡ fits forms (kept blanks (part ∷ words))
  more_words forms part bytes words later = by_gap (is_gap blanks part) where
    by_left : (left : Option (List Form))
        → holds_at (ends_at blanks) (option_and_then (λ next. run blanks next bytes)
        (option_and_then (λ left. Some (stand left [])) left))
        ≡ holds_left (λ left. fits left (filter (λ part. not (is_gap blanks part)) words)) left
    by_left None = refl
    by_left (Some left) = later left

    by_gap : (gap : Bool) → holds_at (ends_at blanks)
        (option_and_then (λ next. run blanks next bytes)
        (option_and_then (λ left. Some (stand left [])) (cond gap (Some forms) (behind_word forms part))))
        ≡ fits forms (cond (not gap) (part ∷ filter (λ part. not (is_gap blanks part)) words)
        (filter (λ part. not (is_gap blanks part)) words))
    by_gap true = later forms
    by_gap false = by_left (behind_word forms part)

  run_words : (forms : List Form) (part line : List ℕ)
      → holds_at (ends_at blanks) (run blanks (stand forms part) line)
      ≡ fits forms (kept blanks (joined part (slice_split (parts_words blanks) line)))
  run_words forms part [] = last_word forms part
      ∙ ap (λ part. fits forms (kept blanks (part ∷ []))) (sym (append-nil part))
  run_words forms part (byte ∷ bytes) =
      by_byte (λ left. run_words left [] bytes) (run_words forms (part ++ byte ∷ []) bytes) (parts_words blanks byte) where
        by_byte : ((left : List Form) → holds_at (ends_at blanks) (run blanks (stand left []) bytes) ≡ fits left
            (kept blanks (joined [] (slice_split (parts_words blanks) bytes))))
            → holds_at (ends_at blanks) (run blanks (stand forms (part ++ byte ∷ [])) bytes)
            ≡ fits forms (kept blanks (joined (part ++ byte ∷ []) (slice_split (parts_words blanks) bytes)))
            → (parts : Bool)
            → holds_at (ends_at blanks) (option_and_then (λ next. run blanks next bytes)
            (cond parts (option_and_then (λ left. Some (stand left [])) (behind_part blanks forms part))
            (Some (stand forms (part ++ byte ∷ [])))))
            ≡ fits forms (kept blanks (joined part (cond parts ([] ∷ slice_split (parts_words blanks) bytes) (onto_first byte (slice_split (parts_words blanks) bytes)))))
        by_byte parted going true =
            more_words forms part bytes (slice_split (parts_words blanks) bytes)
            (λ left. parted left ∙ ap (λ words. fits left (kept blanks words)) (joined-none (parts_words blanks) bytes))
            ∙ ap (λ part. fits forms (kept blanks (part ∷ slice_split (parts_words blanks) bytes)))
            (sym (append-nil part))
        by_byte parted going false =
            going ∙ ap (λ words. fits forms (kept blanks words))
            (sym (joined-onto part byte (parts_words blanks) bytes))

  line_words : (forms : List Form) (line : List ℕ)
      → is_line_of blanks forms line ≡ fits forms (kept blanks (slice_split (parts_words blanks) line))
  line_words forms line = run_words forms [] line
      ∙ ap (λ words. fits forms (kept blanks words)) (joined-none (parts_words blanks) line)

kept_all : (words : List (List ℕ)) → kept false words ≡ words
kept_all [] = refl
kept_all (word ∷ words) = ap (λ words. word ∷ words) (kept_all words)

-- words that single spaces part
pub script_words : (forms : List Form) (line : List ℕ) → is_line_of false forms line ≡ fits forms (words_of line)
script_words forms line = line_words false forms line
    ∙ ap (fits forms) (kept_all (slice_split (λ byte. byte == 32) line))

kept_some : (words : List (List ℕ)) → kept true words ≡ filter (λ part. not (length part == 0)) words
kept_some [] = refl
kept_some ([] ∷ words) = kept_some words
kept_some ((byte ∷ bytes) ∷ words) =
    ap (λ words. (byte ∷ bytes) ∷ words) (kept_some words)
    ∙ ap (λ b. cond b ((byte ∷ bytes) ∷ filter (λ part. not (length part == 0)) words)
    (filter (λ part. not (length part == 0)) words)) (sym (some_bytes byte bytes))

-- words that blanks part
pub rule_words : (forms : List Form) (line : List ℕ) → is_line_of true forms line ≡ fits forms (blank_words_of line)
rule_words forms line = line_words true forms line ∙ ap (fits forms) (kept_some (slice_split is_blank line))
