-- The limit of this project's profile, as a number.
use Rattle.std.specs.Prelude.{ℕ}

-- entries of a cache
abbrev pub most_entries : ℕ
most_entries = 4096
