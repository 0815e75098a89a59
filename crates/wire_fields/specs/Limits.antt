-- The limits of this project's profile, as numbers. The constants of the code meet them in the proofs.
use Rattle.std.specs.Prelude.{ℕ}

-- the least length of a frame
abbrev pub least_length : ℕ
least_length = 3

-- the greatest length of a frame
abbrev pub most_length : ℕ
most_length = 1048576

-- the most bytes of a file in one reply
abbrev pub most_part_bytes : ℕ
most_part_bytes = 65536
