-- Bytes of a text that may stand in a name.
use Rattle.std.specs.Prelude.{◌≡◌, ◌≤◌, ◌<◌, ℕ, true, List, get_or}
use Rattle.cynara_keys.specs.Text.{is_visible}

-- those at the places from one on, up to another
abbrev pub AreVisible : List ℕ → ℕ → ℕ → Type 0
AreVisible bytes low high = (k : ℕ) → low ≤ k → k < high → is_visible (get_or bytes k 0) ≡ true
