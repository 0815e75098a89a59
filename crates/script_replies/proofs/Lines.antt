-- The lines of a script, from their pieces.
use Rattle.std.proofs.Common.{◌≡◌, ◌<◌, ◌≤◌, ◌+◌, ◌-◌, ◌⊎◌, inl, inr, ℕ, Bool, true, false, cond, nat_lt, List, [], ◌∷◌}
use Rattle.std.proofs.Common.{◌++◌, length, Option, Some, None, Err, refl, sym, ap, ◌∙◌, subst, arith, append_assoc}
use Rattle.std.proofs.Common.{append-nil, length-append}
use Rattle.std.proofs.lemmas.Bool.{lt-ltb, le-ltb}
use Rattle.std.specs.Option.{option_map_or}
use Rattle.text_lines.specs.Lines.{HasNoNewline, IsPieceOf, pieces_of, line_of, lines_within}
use Rattle.text_lines.proofs.Pieces.{pieces_of-newline, pieces_of-last, line_of-newline, line_of-last}
use Rattle.line_script.specs.Block.{Block}
use Rattle.line_script.specs.Grammar.{step_at}
use Rattle.line_script.specs.declared.steps.Step.{Step}
use Rattle.script_replies.specs.Script.{Script, line_step, with_step, read_lines}
use Rattle.script_replies.specs.Reading.{with_steps}
use Rattle.script_replies.specs.Limits.{most_line_bytes}

-- a piece is the first of a text, where it ends with a newline or nothing follows
pub pieces_of-piece : (line piece more : List ℕ) → IsPieceOf line piece → (HasNoNewline piece → more ≡ [])
    → pieces_of (piece ++ more) ≡ piece ∷ pieces_of more
pieces_of-piece line piece more is last = by_end is.1
  where
    only : (text : List ℕ) → HasNoNewline text → (text ≡ [] → ⊥) → pieces_of text ≡ text ∷ []
    only [] none some = absurd (some refl)
    only (byte ∷ bytes) none some = pieces_of-last byte bytes none

    by_end : ((piece ≡ line ++ 10 ∷ []) ⊎ ((piece ≡ line) × (line ≡ [] → ⊥)))
        → pieces_of (piece ++ more) ≡ piece ∷ pieces_of more
    by_end (inl whole) =
        ap (λ piece. pieces_of (piece ++ more)) whole
        ∙ (ap pieces_of (append_assoc line (10 ∷ []) more)
        ∙ (pieces_of-newline line more is.0 ∙ ap (λ piece. piece ∷ pieces_of more) (sym whole)))
    by_end (inr same) =
        let none = subst HasNoNewline (sym same.0) is.0 in
        let nothing = last none in
        ap (λ more. pieces_of (piece ++ more)) nothing
        ∙ (ap pieces_of (append-nil piece)
        ∙ (only piece none (λ empty. same.1 (sym same.0 ∙ empty)) ∙ ap (λ more. piece ∷ pieces_of more) (sym nothing)))

pub line_of-piece : (line piece : List ℕ) → IsPieceOf line piece → line_of piece ≡ line
line_of-piece line piece is =
    elim is.1 [
      | inl whole ↦ ap line_of whole ∙ line_of-newline line [] is.0
      | inr same ↦ ap line_of same.0 ∙ line_of-last line is.0
    ]

-- a piece has at least one byte
pub length-piece : (line piece : List ℕ) → IsPieceOf line piece → 0 < length piece
length-piece line piece is =
    elim is.1 [
      | inl whole ↦ omega (arith, ap length whole, length-append line (10 ∷ []))
      | inr same ↦ some piece (λ empty. same.1 (sym same.0 ∙ empty))
    ]
  where
    some : (bytes : List ℕ) → (bytes ≡ [] → ⊥) → 0 < length bytes
    some [] not = absurd (not refl)
    some (byte ∷ bytes) not = omega arith

-- a script that stops at this line
abbrev pub stops_at : ℕ → Script
stops_at number = record { steps = []; stands = Err number }

module _ (number room : ℕ) (block : Block) (piece : List ℕ) (pieces : List (List ℕ)) where
  -- the first line has this step
  pub read_lines-step : (line : List ℕ) (next : Block) (step : Step) → line_of piece ≡ line → length piece ≤ room
      → length line ≤ most_line_bytes → step_at block line ≡ Some (next, step)
      → read_lines number block (lines_within room (piece ∷ pieces))
      ≡ with_step step (read_lines (number + 1) next (lines_within (room - length piece) pieces))
  read_lines-step line next step is within short reads =
      let later = lines_within (room - length piece) pieces in
      let behind : Option (Block × Step) → Script =
      λ read. option_map_or (λ read. with_step read.1 (read_lines (number + 1) read.0 later)) read (stops_at number) in
      ap (λ past. read_lines number block (cond past (None ∷ []) (Some (line_of piece) ∷ later)))
      (le-ltb room (length piece) within)
      ∙ (ap (λ line. behind (line_step block (Some line))) is
      ∙ (ap (λ long. behind (cond long None (step_at block line))) (le-ltb most_line_bytes (length line) short)
      ∙ ap behind reads))

  -- the first line has no step
  pub read_lines-none : line_step block (Some (line_of piece)) ≡ None
      → read_lines number block (lines_within room (piece ∷ pieces)) ≡ stops_at number
  read_lines-none none = either (nat_lt room (length piece))
    where
      either : (past : Bool)
          → read_lines number block (cond past (None ∷ [])
          (Some (line_of piece) ∷ lines_within (room - length piece) pieces))
          ≡ stops_at number
      either true = refl
      either false =
          ap (λ read. option_map_or
          (λ read. with_step read.1 (read_lines (number + 1) read.0 (lines_within (room - length piece) pieces))) read
          (stops_at number)) none

  -- the first line is past a limit
  pub read_lines-past : (room < length piece) ⊎ (most_line_bytes < length (line_of piece))
      → read_lines number block (lines_within room (piece ∷ pieces)) ≡ stops_at number
  read_lines-past (inl past) =
      ap (λ past. read_lines number block
      (cond past (None ∷ []) (Some (line_of piece) ∷ lines_within (room - length piece) pieces)))
      (lt-ltb room (length piece) past)
  read_lines-past (inr long) =
      read_lines-none
      (ap (λ long. cond long None (step_at block (line_of piece)))
      (lt-ltb most_line_bytes (length (line_of piece)) long))

pub line_step-none : (block : Block) (line : List ℕ) → step_at block line ≡ None → line_step block (Some line) ≡ None
line_step-none block line none = either (nat_lt most_line_bytes (length line))
  where
    either : (long : Bool) → cond long None (step_at block line) ≡ None
    either true = refl
    either false = none

pub with_steps-step : (steps : List Step) (step : Step) (script : Script)
    → with_steps steps (with_step step script) ≡ with_steps (steps ++ step ∷ []) script
with_steps-step steps step script =
    ap (λ steps. record script { steps = steps }) (sym (append_assoc steps (step ∷ []) script.steps))
