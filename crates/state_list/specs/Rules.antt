-- The rule of a list that only grows, and what its one step tells.
use Rattle.std.specs.Prelude.{ℕ, ◌≡◌, ◌==◌, true, List, [], ◌∷◌, ◌++◌, length, MatchBool}
use Rattle.logbook.specs.Pages.{Cell, Step, View, Book, Named}

-- The first word is the length of the list. A logbook has two words, of which this one leaves the second at 0.
pub record IsKept {S : Type 0} (cells : List Cell) (states : List S) : Type 0 where
  pub words : cells ≡ (length states, true) ∷ (0, true) ∷ []

abbrev pub head_of : Book → Named
head_of book = record { tracked = true; key = 0; book = book }

-- the state was put behind all that had been seen; or the list was longer, and was seen
abbrev pub Adds : {S : Type 0} → Step S → View S ℕ → ℕ → View S ℕ → Type 0
Adds step before found after =
    MatchBool (found == step.old) (after.0 ≡ before.0 ++ step.ask ∷ []) (length after.0 ≡ found)
