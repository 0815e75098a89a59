-- The limits of this project's profile, as numbers. The constants of the code meet them in the proofs.
use Rattle.std.specs.Prelude.{ℕ}

-- questions that wait for an agent at a time
abbrev pub most_waiting : ℕ
most_waiting = 1024

-- entries of the agents' log in one run
abbrev pub most_entries : ℕ
most_entries = 4294967295
