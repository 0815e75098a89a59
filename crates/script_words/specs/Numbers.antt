-- Decimal numbers, each with one spelling.
use Rattle.std.specs.Prelude.{ℕ, Bool, false, not, ◌&&◌, ◌==◌, if◌then◌else◌, List, [], ◌∷◌, Option, Some, None}
use Rattle.std.specs.Char.{is_ascii_digit}
use Rattle.std.specs.List.{list_all}
use Rattle.std.specs.Str.Parse.{digits_value}
use Rattle.script_words.specs.Words.{◌>>=◌}

-- one digit or more, without a sign and without a zero in front of another digit
abbrev pub is_number : List ℕ → Bool
is_number [] = false
is_number (digit ∷ []) = is_ascii_digit digit
is_number (first ∷ next ∷ digits) = not (first == 48) && list_all is_ascii_digit (first ∷ next ∷ digits)

-- the number that is written so
abbrev pub number_of : List ℕ → Option ℕ
number_of text = if is_number text then Some (digits_value 10 text) else None

-- a number that passes a test
abbrev pub number_that : (ℕ → Bool) → List ℕ → Option ℕ
number_that fits text = do
  number ← number_of text
  if fits number then Some number else None
