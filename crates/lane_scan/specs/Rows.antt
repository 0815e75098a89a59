-- Rows of numbers, and the numbers of those that pass a test.
use Rattle.std.specs.Prelude.{ℕ, ◌+◌, Bool, if◌then◌else◌, List, [], ◌∷◌}

-- what a key of a policy is kept as: the numbers of its client, its user and its privilege
pub record Row : Type 0 where
  pub client : ℕ
  pub user : ℕ
  pub privilege : ℕ

abbrev pub most_rows : ℕ
most_rows = 65536

-- the numbers of the elements that pass, in rising order, where the first element has this number
abbrev pub numbers_from : {X : Type 0} → ℕ → (X → Bool) → List X → List ℕ
numbers_from first test [] = []
numbers_from first test (element ∷ others) =
    if test element then first ∷ numbers_from (first + 1) test others else numbers_from (first + 1) test others

-- the numbers of the rows that pass, in rising order
abbrev pub numbers_of : (Row → Bool) → List Row → List ℕ
numbers_of = numbers_from 0
