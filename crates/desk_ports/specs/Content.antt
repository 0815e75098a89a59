-- What a call does to the content of a source or a sink: the bytes left to read, or the bytes taken.
-- `Some` content is told. Of an object that tells none, `None`, nothing is said.
use Rattle.std.specs.Prelude.{◌≡◌, ◌<◌, ℕ, List, [], ◌++◌, length, take, Option, Some, None}

-- a source gave these bytes: what was left before the call is what it gave, and then what is left after it
abbrev pub Took : Option (List ℕ) → List ℕ → Option (List ℕ) → Type 0
Took None given after = Unit {0}
Took (Some before) given after = (rest : List ℕ) × (before ≡ given ++ rest) × (after ≡ Some rest)

-- the content is the one before
abbrev pub Stays : Option (List ℕ) → Option (List ℕ) → Type 0
Stays None after = Unit {0}
Stays (Some before) after = after ≡ Some before

-- a source is at its end: no bytes are left
abbrev pub AtEnd : Option (List ℕ) → Type 0
AtEnd None = Unit {0}
AtEnd (Some left) = left ≡ []

-- a source was read to its end
abbrev pub ReadToEnd : Option (List ℕ) → Option (List ℕ) → Type 0
ReadToEnd None after = Unit {0}
ReadToEnd (Some before) after = after ≡ Some []

-- a sink took all of these bytes, behind those that it had taken before
abbrev pub Appended : Option (List ℕ) → List ℕ → Option (List ℕ) → Type 0
Appended None more after = Unit {0}
Appended (Some before) more after = after ≡ Some (before ++ more)

-- a sink took the first `n` of these bytes, which are not all, behind those that it had taken before
abbrev pub AppendedPart : Option (List ℕ) → List ℕ → Option (List ℕ) → Type 0
AppendedPart before more after = (n : ℕ) × (n < length more) × Appended before (take n more) after
