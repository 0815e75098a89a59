-- The words of a line.
use Rattle.std.specs.Prelude.{ℕ, Bool, not, ◌||◌, ◌==◌, List, length, filter}
use Rattle.std.specs.List.{slice_split}

-- a space or a tab
abbrev pub is_blank : ℕ → Bool
is_blank byte = byte == 32 || byte == 9

-- whether a word stands between two blanks
abbrev pub is_word : List ℕ → Bool
is_word part = not (length part == 0)

-- What stands between the blanks of a line. Blanks in a row, or at an end, have no word between them.
abbrev pub words_of : List ℕ → List (List ℕ)
words_of line = filter is_word (slice_split is_blank line)
