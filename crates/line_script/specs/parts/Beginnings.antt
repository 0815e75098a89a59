-- How lines begin.
use Rattle.std.specs.Prelude.{ℕ, ◌==◌, List, [], ◌∷◌, Bool, false}

-- as `check` does: so begins no line that is skipped or opens a block
abbrev pub begins_as_check : List ℕ → Bool
begins_as_check [] = false
begins_as_check (byte ∷ bytes) = byte == 99
