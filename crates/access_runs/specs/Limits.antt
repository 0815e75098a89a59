-- The limit on a text of rules, as a number. The constants of the code meet it in the proofs.
use Rattle.std.specs.Prelude.{ℕ}

-- bytes of a text of rules
abbrev pub most_rules_bytes : ℕ
most_rules_bytes = 16777216
