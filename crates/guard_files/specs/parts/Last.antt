-- The last name of a list, for the order of names as they are read.
use Rattle.std.specs.Prelude.{ℕ, List, [], ◌∷◌}

-- no bytes, where there is no name
abbrev pub last_name : List (List ℕ) → List ℕ
last_name [] = []
last_name (name ∷ []) = name
last_name (name ∷ next ∷ names) = last_name (next ∷ names)
