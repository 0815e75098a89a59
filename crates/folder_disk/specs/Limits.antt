-- The limit of this project's profile, as a number. The constant of the code meets it in the proofs.
use Rattle.std.specs.Prelude.{ℕ}

-- bytes of a file that is read
abbrev pub most_file_bytes : ℕ
most_file_bytes = 268435456
