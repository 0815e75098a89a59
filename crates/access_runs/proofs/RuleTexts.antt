-- A text of rules, taken apart behind its whole lines.
use Rattle.std.proofs.Common.{◌≡◌, ◌≤◌, ◌<◌, ◌+◌, ◌-◌, ◌∷◌, ◌++◌, [], ℕ, Bool, true, false, cond, nat_lt, List, length}
use Rattle.std.proofs.Common.{map, take, Option, Some, None, Result, Ok, Err, IsOkAnd, IfOk, IfErr, MatchResult, inl}
use Rattle.std.proofs.Common.{inr, refl, sym, ap, ◌∙◌, subst, append_assoc, append-nil, arith, length-append}
use Rattle.std.proofs.lemmas.Bool.{lt-ltb, le-ltb}
use Rattle.std.proofs.lemmas.List.{length-take-le}
use Rattle.std.specs.List.{onto_first}
use Rattle.std.specs.Option.{option_to_list}
use Rattle.text_lines.specs.Lines.{is_newline, HasNoNewline, AreWholeLines, pieces_of, line_of, lines_within}
use Rattle.text_lines.proofs.Pieces.{pieces_of-newline}
use Rattle.smack_rules.specs.declared.rule.Rule.{Rule}
use Rattle.smack_rules.specs.declared.rule.LineRefusal.{LineRefusal}
use Rattle.smack_rules.specs.Rule.{line_rule}
use Rattle.smack_rules.specs.declared.modes.Modes.{Modes}
use Rattle.smack_rules.specs.Effective.{effective}
use Rattle.smack_rules.specs.RuleText.{with_front, with_line, rules_from, rules_of}
use Rattle.access_runs.specs.AccessRun.{rules_of as rules_of_lines, rules_read}
use Rattle.access_runs.specs.Limits.{most_rules_bytes}
use Rattle.access_runs.specs.parts.Access.{AreLinesOf, IsWrongAt, AreGranted}
use Rattle.run_endings.proofs.Trying.{IsCut-take}

-- ---- the pieces of a text

-- how many bytes are in pieces
abbrev bytes_in : List (List ℕ) → ℕ
bytes_in [] = 0
bytes_in (piece ∷ pieces) = length piece + bytes_in pieces

bytes_in-first : (byte : ℕ) (pieces : List (List ℕ)) → bytes_in (onto_first byte pieces) ≡ bytes_in pieces + 1
bytes_in-first byte [] = omega arith
bytes_in-first byte (piece ∷ pieces) = omega arith

bytes_in-chosen : (b : Bool) (byte : ℕ) (pieces : List (List ℕ))
    → bytes_in (cond b ((byte ∷ []) ∷ pieces) (onto_first byte pieces)) ≡ bytes_in pieces + 1
bytes_in-chosen true byte pieces = omega arith
bytes_in-chosen false byte pieces = bytes_in-first byte pieces

bytes_in-pieces : (bytes : List ℕ) → bytes_in (pieces_of bytes) ≡ length bytes
bytes_in-pieces [] = refl
bytes_in-pieces (byte ∷ bytes) = omega
    (arith, bytes_in-chosen (is_newline byte) byte (pieces_of bytes), bytes_in-pieces bytes)

some-chosen : (b : Bool) (byte : ℕ) (pieces : List (List ℕ)) → 0 < length pieces
    → 0 < length (cond b ((byte ∷ []) ∷ pieces) (onto_first byte pieces))
some-chosen true byte pieces some = omega arith
some-chosen false byte [] some = omega arith
some-chosen false byte (piece ∷ pieces) some = omega arith

some-pieces : (front : List ℕ) → 0 < length (pieces_of (front ++ 10 ∷ []))
some-pieces [] = omega arith
some-pieces (byte ∷ front) = some-chosen (is_newline byte) byte (pieces_of (front ++ 10 ∷ [])) (some-pieces front)

chosen-append : (b : Bool) (byte : ℕ) (first rest : List (List ℕ)) → 0 < length first
    → cond b ((byte ∷ []) ∷ (first ++ rest)) (onto_first byte (first ++ rest))
    ≡ cond b ((byte ∷ []) ∷ first) (onto_first byte first) ++ rest
chosen-append true byte first rest some = refl
chosen-append false byte [] rest some = absurd (omega (arith, some))
chosen-append false byte (piece ∷ first) rest some = refl

pieces_of-whole : (front more : List ℕ)
    → pieces_of (front ++ 10 ∷ more) ≡ pieces_of (front ++ 10 ∷ []) ++ pieces_of more
pieces_of-whole [] more = refl
pieces_of-whole (byte ∷ front) more =
    ap (λ pieces. cond (is_newline byte) ((byte ∷ []) ∷ pieces) (onto_first byte pieces)) (pieces_of-whole front more)
    ∙ chosen-append (is_newline byte) byte (pieces_of (front ++ 10 ∷ [])) (pieces_of more) (some-pieces front)

-- the pieces of what begins with whole lines
pieces_of-lines : (lines more : List ℕ) → AreWholeLines lines
    → pieces_of (lines ++ more) ≡ pieces_of lines ++ pieces_of more
pieces_of-lines lines more (inl none) =
    subst (λ lines. pieces_of (lines ++ more) ≡ pieces_of lines ++ pieces_of more) (sym none) refl
pieces_of-lines lines more (inr some) =
    subst (λ lines. pieces_of (lines ++ more) ≡ pieces_of lines ++ pieces_of more) (sym some.1)
    (ap pieces_of (append_assoc some.0 (10 ∷ []) more) ∙ pieces_of-whole some.0 more)

-- the first piece of what begins with a part of a line
record FirstPiece (part bytes : List ℕ) : Type 0 where
  piece : List ℕ
  pieces : List (List ℕ)
  is : pieces_of bytes ≡ piece ∷ pieces
  longer : length part < length piece

first-chosen : (b : Bool) (byte : ℕ) (rest pieces : List (List ℕ)) → rest ≡ pieces
    → (piece : List ℕ) × (others : List (List ℕ))
    × (cond b ((byte ∷ []) ∷ rest) (onto_first byte rest) ≡ piece ∷ others)
    × (0 < length piece)
first-chosen true byte rest pieces is = (byte ∷ [], rest, refl, omega arith)
first-chosen false byte rest [] is = (byte ∷ [], [], ap (onto_first byte) is, omega arith)
first-chosen false byte rest (piece ∷ pieces) is = (byte ∷ piece, pieces, ap (onto_first byte) is, omega arith)

first_piece : (part : List ℕ) (byte : ℕ) (after : List ℕ) → HasNoNewline part → FirstPiece part (part ++ byte ∷ after)
first_piece [] byte after plain =
    let first = first-chosen (is_newline byte) byte (pieces_of after) (pieces_of after) refl in
    record { piece = first.0; pieces = first.1; is = first.2; longer = first.3 }
first_piece (next ∷ part) byte after plain =
    let first = first_piece part byte after plain.1 in
    record {
      piece = next ∷ first.piece;
      pieces = first.pieces;
      is = ap (λ b. cond b ((next ∷ []) ∷ pieces_of (part ++ byte ∷ after))
          (onto_first next (pieces_of (part ++ byte ∷ after)))) plain.0 ∙ ap (onto_first next) first.is;
      longer = omega (arith, first.longer);
    }

-- ---- the rules of a text

-- the rules of pieces, where the text may still have so many bytes and the next line has this number
abbrev rules_within : ℕ → ℕ → List (List ℕ) → Result (List Rule) ℕ
rules_within room number pieces = rules_of_lines number (lines_within room pieces)

-- rules, and behind them those of later lines
abbrev then_rules : Result (List Rule) ℕ → Result (List Rule) ℕ → Result (List Rule) ℕ
then_rules (Ok rules) later = with_front rules later
then_rules (Err number) later = Err number

with_front-none : (later : Result (List Rule) ℕ) → with_front [] later ≡ later
with_front-none (Ok rules) = refl
with_front-none (Err number) = refl

with_front-twice : (first second : List Rule) (later : Result (List Rule) ℕ)
    → with_front first (with_front second later) ≡ with_front (first ++ second) later
with_front-twice first second (Ok rules) = ap Ok (sym (append_assoc first second rules))
with_front-twice first second (Err number) = refl

with_line-then : (number : ℕ) (rule : Result (Option Rule) LineRefusal) (first later : Result (List Rule) ℕ)
    → with_line number rule (then_rules first later) ≡ then_rules (with_line number rule first) later
with_line-then number (Ok rule) (Ok rules) later = with_front-twice (option_to_list rule) rules later
with_line-then number (Ok rule) (Err line) later = refl
with_line-then number (Err refusal) first later = refl

within-test : (room size : ℕ) → size ≤ room → nat_lt room size ≡ false
within-test room size within = le-ltb room size within

past-test : (room size : ℕ) → room < size → nat_lt room size ≡ true
past-test room size past = lt-ltb room size past

-- the rules of pieces for which there is room, and of those behind them
rules_within-front : (room number : ℕ) (first rest : List (List ℕ)) → bytes_in first ≤ room
    → rules_within room number (first ++ rest)
    ≡ then_rules (rules_from number (map line_of first))
    (rules_within (room - bytes_in first) (number + length first) rest)
rules_within-front room number [] rest within =
    let rooms : room ≡ room - 0 = omega arith in
    let numbers : number ≡ number + 0 = omega arith in
    ap (λ room. rules_within room number rest) rooms
    ∙ (ap (λ number. rules_within (room - 0) number rest) numbers
    ∙ sym (with_front-none (rules_within (room - 0) (number + 0) rest)))
rules_within-front room number (piece ∷ first) rest within =
    let left = room - length piece in
    let rooms : left - bytes_in first ≡ room - (length piece + bytes_in first) = omega arith in
    let numbers : number + 1 + length first ≡ number + length (piece ∷ first) = omega arith in
    let line = line_rule (line_of piece) in
    let own = rules_from number (map line_of (piece ∷ first)) in
    ap (λ b. rules_of_lines number (cond b (None ∷ []) (Some (line_of piece) ∷ lines_within left (first ++ rest))))
    (within-test room (length piece) (omega (arith, within)))
    ∙ (ap (with_line number line) (rules_within-front left (number + 1) first rest (omega (arith, within)))
    ∙ (with_line-then number line (rules_from (number + 1) (map line_of first))
    (rules_within (left - bytes_in first) (number + 1 + length first) rest)
    ∙ (ap (λ room. then_rules own (rules_within room (number + 1 + length first) rest)) rooms
    ∙ ap (λ number. then_rules own (rules_within (room - (length piece + bytes_in first)) number rest)) numbers)))

then_rules-none : (rules : Result (List Rule) ℕ) → then_rules rules (Ok []) ≡ rules
then_rules-none (Ok rules) = ap Ok (append-nil rules)
then_rules-none (Err number) = refl

-- a text within the room
rules_within-all : (room : ℕ) (text : List ℕ) → length text ≤ room
    → rules_within room 1 (pieces_of text) ≡ rules_of text
rules_within-all room text within =
    ap (rules_within room 1) (sym (append-nil (pieces_of text)))
    ∙ (rules_within-front room 1 (pieces_of text) [] (omega (arith, bytes_in-pieces text, within))
    ∙ then_rules-none (rules_of text))

-- no room for the byte that follows a part of a line
rules_within-past : (room number : ℕ) (part : List ℕ) (byte : ℕ) (after : List ℕ) → HasNoNewline part
    → length part ≡ room
    → rules_within room number (pieces_of (part ++ byte ∷ after)) ≡ Err number
rules_within-past room number part byte after plain full =
    let first = first_piece part byte after plain in
    ap (rules_within room number) first.is
    ∙ ap (λ b. rules_of_lines number
    (cond b (None ∷ []) (Some (line_of first.piece) ∷ lines_within (room - length first.piece) first.pieces)))
    (past-test room (length first.piece) (omega (arith, full, first.longer)))

-- the rules of whole lines for which there is room, with a part of a line behind them that fills it
rules_within-over : (room count : ℕ) (lines part : List ℕ) (byte : ℕ) (after : List ℕ) → AreWholeLines lines
    → HasNoNewline part
    → length (pieces_of lines) ≡ count → length lines + length part ≡ room
    → rules_within room 1 (pieces_of (lines ++ (part ++ byte ∷ after))) ≡ then_rules (rules_of lines) (Err (count + 1))
rules_within-over room count lines part byte after whole plain counted full =
    let rest = pieces_of (part ++ byte ∷ after) in
    let rooms : length part ≡ room - bytes_in (pieces_of lines) = omega (arith, bytes_in-pieces lines, full) in
    let numbers : 1 + length (pieces_of lines) ≡ count + 1 = omega (arith, counted) in
    ap (rules_within room 1) (pieces_of-lines lines (part ++ byte ∷ after) whole)
    ∙ (rules_within-front room 1 (pieces_of lines) rest (omega (arith, bytes_in-pieces lines, full))
    ∙ (ap (then_rules (rules_of lines))
    (rules_within-past (room - bytes_in (pieces_of lines)) (1 + length (pieces_of lines)) part byte after plain rooms)
    ∙ ap (λ number. then_rules (rules_of lines) (Err number)) numbers))

-- the same of a text that goes past the room, whatever follows
over : (room count : ℕ) (text lines more : List ℕ) → room < length text → AreLinesOf (take room text) lines count
    → rules_within room 1 (pieces_of (text ++ more)) ≡ then_rules (rules_of lines) (Err (count + 1))
over room count text lines more past are =
    let cut = IsCut-take room text past in
    let size = length-take-le room text (omega (arith, past)) in
    let sizes : length lines + length are.rest
    ≡ room = omega (arith, size, ap length are.parts, length-append lines are.rest) in
    let parts : text ++ more ≡ lines ++ (are.rest ++ cut.0 ∷ (cut.1 ++ more)) =
    ap (λ text. text ++ more) (cut.2 ∙ ap (λ front. front ++ cut.0 ∷ cut.1) are.parts)
    ∙ (append_assoc (lines ++ are.rest) (cut.0 ∷ cut.1) more ∙ append_assoc lines are.rest (cut.0 ∷ (cut.1 ++ more))) in
    ap (λ text. rules_within room 1 (pieces_of text)) parts
    ∙ rules_within-over room count lines are.rest cut.0 (cut.1 ++ more) are.whole are.unfinished are.counted sizes

right-then : (P : List Rule → Type 0) (rules later : Result (List Rule) ℕ) (number : ℕ) → IsOkAnd rules P
    → later ≡ Err number
    → then_rules rules later ≡ Err number
right-then P (Ok rules) later number right is = ap (with_front rules) is
right-then P (Err line) later number right is = absurd right

-- the lines within the limit are rules, so that the one behind them is the first that is wrong
pub IsWrongAt-past : (count : ℕ) (text lines : List ℕ) (P : List Rule → Type 0) → most_rules_bytes < length text
    → AreLinesOf (take most_rules_bytes text) lines count
    → IsOkAnd (rules_of lines) P → IsWrongAt text (count + 1)
IsWrongAt-past count text lines P past are right =
    λ more none. over most_rules_bytes count text lines more past are
    ∙ right-then P (rules_of lines) (Err (count + 1)) (count + 1) right refl

-- a line within the limit is wrong
pub IsWrongAt-before : (count line : ℕ) (text lines : List ℕ) → most_rules_bytes < length text
    → AreLinesOf (take most_rules_bytes text) lines count
    → rules_of lines ≡ Err line → IsWrongAt text line
IsWrongAt-before count line text lines past are wrong =
    λ more none. over most_rules_bytes count text lines more past are
    ∙ ap (λ rules. then_rules rules (Err (count + 1))) wrong

-- a line of a text within the limit is wrong
IsWrongAt-within : (line : ℕ) (text : List ℕ) → length text ≤ most_rules_bytes → rules_of text ≡ Err line
    → IsWrongAt text line
IsWrongAt-within line text within wrong =
    λ more none. ap (λ more. rules_read (text ++ more)) (none within)
    ∙ (ap rules_read (append-nil text) ∙ (rules_within-all most_rules_bytes text within ∙ wrong))

granted_by : (text subject object : List ℕ) (granted : Modes) (rules : Result (List Rule) ℕ)
    → length text ≤ most_rules_bytes
    → rules_read text ≡ rules → IsOkAnd rules (λ rules. granted ≡ effective rules subject object)
    → AreGranted text subject object granted
granted_by text subject object granted (Ok rules) within is grants =
    record { rules = rules; within = within; right = is; grants = grants }
granted_by text subject object granted (Err line) within is grants = absurd grants

-- what one pass over a text within the limit gives
pub AreGranted-within : (text subject object : List ℕ) → length text ≤ most_rules_bytes → (result : Result Modes ℕ)
    → IfOk result (λ granted. IsOkAnd (rules_of text) (λ rules. granted ≡ effective rules subject object))
    → IfErr result (λ number. rules_of text ≡ Err number)
    → MatchResult result (AreGranted text subject object) (IsWrongAt text)
AreGranted-within text subject object within (Ok granted) grants wrong =
    granted_by text subject object granted (rules_of text) within (rules_within-all most_rules_bytes text within) grants
AreGranted-within text subject object within (Err number) grants wrong = IsWrongAt-within number text within wrong

-- ---- the whole lines of a text

-- the lines so far
pub record LinesSoFar (text rest : List ℕ) (count : ℕ) : Type 0 where
  pub lines : List ℕ
  pub parts : text ≡ lines ++ rest
  pub whole : AreWholeLines lines
  pub counted : length (pieces_of lines) ≡ count

pub LinesSoFar-more : (text rest line after : List ℕ) (count : ℕ) → LinesSoFar text rest count
    → rest ≡ line ++ 10 ∷ after
    → HasNoNewline line → LinesSoFar text after (count + 1)
LinesSoFar-more text rest line after count so_far cut plain =
    let lines = so_far.lines in
    record {
      lines = lines ++ (line ++ 10 ∷ []);
      parts = so_far.parts ∙ (ap (λ rest. lines ++ rest) (cut ∙ sym (append_assoc line (10 ∷ []) after))
          ∙ sym (append_assoc lines (line ++ 10 ∷ []) after));
      whole = inr (lines ++ line, sym (append_assoc lines line (10 ∷ [])));
      counted = omega (
        arith,
        ap length (pieces_of-lines lines (line ++ 10 ∷ []) so_far.whole),
        ap length (pieces_of-newline line [] plain),
        length-append (pieces_of lines) (pieces_of (line ++ 10 ∷ [])),
        so_far.counted,
      );
    }
