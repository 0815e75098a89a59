-- The text of a file: a line for each of its values, in their order, each with a newline behind it.
use Rattle.std.specs.Prelude.{ℕ, Bool, true, ◌+◌, ◌-◌, ◌==◌, if◌then◌else◌, List, [], ◌∷◌}
use Rattle.std.specs.Prelude.{◌++◌, length, map, slice_get, Option, Some, None, Result, Ok, Err}
use Rattle.std.specs.declared.cmp.Ordering.{Ordering}
use Rattle.std.specs.Ordering.{is_lt}
use Rattle.std.specs.Option.{option_map, option_and_then}
use Rattle.std.specs.List.{flat_map, slice_split, join_with_byte}
use Rattle.text_lines.specs.Lines.{is_newline, pieces_of}

-- ---- the spelling

-- the text that has a line for each value
abbrev pub text_of : {X : Type 0} → (X → List ℕ) → List X → List ℕ
text_of spell values = flat_map (λ value. spell value ++ 10 ∷ []) values

-- the fields of a line, with a semicolon between two of them
abbrev pub joined : List (List ℕ) → List ℕ
joined fields = join_with_byte 59 fields

-- ---- the reading

abbrev pub is_semicolon : ℕ → Bool
is_semicolon byte = byte == 59

-- what stands between the semicolons of a line
abbrev pub fields_of : List ℕ → List (List ℕ)
fields_of line = slice_split is_semicolon line

-- the line in a piece of a text, where its newline is there
abbrev pub whole_line : List ℕ → Option (List ℕ)
whole_line [] = None
whole_line (byte ∷ bytes) = if is_newline byte then Some [] else option_map (λ line. byte ∷ line) (whole_line bytes)

-- the lines of a text; `None` stands for a last one without its newline
abbrev pub whole_lines : List ℕ → List (Option (List ℕ))
whole_lines text = map whole_line (pieces_of text)

-- What the lines give, each read in the light of the values before it, or the number of the first wrong line, from 1.
abbrev pub values_behind : {X : Type 0} → (List X → List ℕ → Option X) → List X → List (Option (List ℕ))
    → Result (List X) ℕ
values_behind read before [] = Ok before
values_behind read before (line ∷ lines) =
    elim (option_and_then (read before) line) [
      | Some value ↦ values_behind read (before ++ value ∷ []) lines
      | None ↦ Err (length before + 1)
    ]

abbrev pub values_of : {X : Type 0} → (List X → List ℕ → Option X) → List ℕ → Result (List X) ℕ
values_of read text = values_behind read [] (whole_lines text)

-- a file that has at least one line: without one, its first line is wrong
abbrev pub at_least_one : {X : Type 0} → Result (List X) ℕ → Result (List X) ℕ
at_least_one (Ok []) = Err 1
at_least_one (Ok (value ∷ values)) = Ok (value ∷ values)
at_least_one (Err line) = Err line

-- ---- the rules of a line

-- the value, where it keeps the rules
abbrev pub kept : {X : Type 0} → (X → Bool) → Option X → Option X
kept rules None = None
kept rules (Some value) = if rules value then Some value else None

-- the last value of those before, where there is one
abbrev pub last_of : {X : Type 0} → List X → Option X
last_of before = slice_get before (length before - 1)

abbrev pub is_above : {X : Type 0} → (X → X → Ordering) → Option X → X → Bool
is_above cmp None value = true
is_above cmp (Some last) value = is_lt (cmp last value)

-- the value comes behind the last one before it
abbrev pub rises_above : {X : Type 0} → (X → X → Ordering) → List X → X → Bool
rises_above cmp before value = is_above cmp (last_of before) value
