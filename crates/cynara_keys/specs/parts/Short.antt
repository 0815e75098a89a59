-- A short text in a fixed array: its bytes, and zeros behind them.
use Rattle.std.specs.Prelude.{◌≡◌, ℕ, ◌-◌, ◌≤◌, List, ◌++◌, length, take, replicate}
use Rattle.cynara_keys.specs.Limits.{most_short_bytes}

-- the text with zeros behind it, as many bytes in all as a short text may have
abbrev pub padded : List ℕ → List ℕ
padded text = text ++ replicate (most_short_bytes - length text) 0

-- the first bytes of the array, as many as the count says, are a text, and the others are zeros
pub record HoldsText (count : ℕ) (array : List ℕ) : Type 0 where
  pub short : count ≤ most_short_bytes
  pub counted : length (take count array) ≡ count
  pub zeros : array ≡ padded (take count array)
