-- A line as a list of words.
use Rattle.std.specs.Prelude.{ℕ, ◌==◌, List, [], ◌∷◌, Option, Some, None, option_and_then, option_map}
use Rattle.std.specs.List.{slice_split}

-- The words of a line, which single spaces part. A space at an end, or beside another one, makes a word without bytes.
abbrev pub words_of : List ℕ → List (List ℕ)
words_of line = slice_split (λ byte. byte == 32) line

infixl 10 ◌>>=◌
abbrev pub ◌>>=◌ : {A B : Type 0} → Option A → (A → Option B) → Option B
reading >>= next = option_and_then next reading

-- what the next word says, and the words behind it
abbrev pub word : {A : Type 0} → (List ℕ → Option A) → List (List ℕ) → Option (A × List (List ℕ))
word reading [] = None
word reading (first ∷ rest) = option_map (λ value. (value, rest)) (reading first)

-- no word is left
unfoldable pub end_of : List (List ℕ) → Option (Unit {0})
end_of [] = Some tt
end_of (first ∷ rest) = None
