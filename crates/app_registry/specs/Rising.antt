-- Lists whose elements rise by a comparison, each once.
use Rattle.std.specs.Prelude.{List, [], ◌∷◌, ◌++◌, filter}
use Rattle.std.specs.declared.cmp.Ordering.{Ordering}
use Rattle.std.specs.Ordering.{is_lt}

-- the element between those before it and those behind it, in place of one that compares as equal
abbrev pub placed : {X : Type 0} → (X → X → Ordering) → X → List X → List X
placed cmp x xs = filter (λ other. is_lt (cmp other x)) xs ++ x ∷ filter (λ other. is_lt (cmp x other)) xs

-- the elements of the list, each once, in the order of the comparison
abbrev pub rising : {X : Type 0} → (X → X → Ordering) → List X → List X
rising cmp [] = []
rising cmp (x ∷ xs) = placed cmp x (rising cmp xs)
