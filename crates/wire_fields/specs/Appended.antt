-- What a call appends to a list of bytes.
use Rattle.std.specs.Prelude.{◌≡◌, ℕ, List, ◌++◌, Result, OnOk}

-- where memory was there, the text stands behind what stood before
abbrev pub Appended : {E : Type 0} → Result (Unit {0}) E → List ℕ → List ℕ → List ℕ → Type 0
Appended result old new text = OnOk result (new ≡ old ++ text)
