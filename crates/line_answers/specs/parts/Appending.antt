-- Texts that grow at their end.
use Rattle.std.specs.Prelude.{◌≡◌, ℕ, List, ◌++◌}

-- new begins with old
abbrev pub Lengthens : List ℕ → List ℕ → Type 0
Lengthens old new = (part : List ℕ) × (new ≡ old ++ part)
