-- The least element of a list by a comparison, where none is there: none. Of elements that tie, the first.
use Rattle.std.specs.Prelude.{List, [], ◌∷◌, Option, Some, None}
use Rattle.std.specs.declared.cmp.Ordering.{Ordering}
use Rattle.std.specs.Ordering.{min_by_ordering}

-- the lesser of an element and another, if there is another, and the first where they tie
abbrev pub lesser : {X : Type 0} → (X → X → Ordering) → X → Option X → X
lesser cmp x None = x
lesser cmp x (Some other) = min_by_ordering (cmp x other) x other

-- the first least element
abbrev pub first_least : {X : Type 0} → (X → X → Ordering) → List X → Option X
first_least cmp [] = None
first_least cmp (x ∷ xs) = Some (lesser cmp x (first_least cmp xs))
