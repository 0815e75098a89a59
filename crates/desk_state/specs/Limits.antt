-- The limits of this project's profile, as numbers. The constants of the code meet them in the proofs.
use Rattle.std.specs.Prelude.{ℕ}

-- the greatest commit number
abbrev pub last_commit : ℕ
last_commit = 18446744073709551615
