-- The limits of this project's profile, as numbers. The constants of the code meet them in the proofs.
use Rattle.std.specs.Prelude.{ℕ}

-- lines of a template
abbrev pub most_template_lines : ℕ
most_template_lines = 64
