-- The limits of scripts, as numbers. The constants of the code meet them in the proofs.
use Rattle.std.specs.Prelude.{ℕ}

-- bytes of a line
abbrev pub most_line_bytes : ℕ
most_line_bytes = 65535

-- bytes of a script
abbrev pub most_script_bytes : ℕ
most_script_bytes = 16777216
