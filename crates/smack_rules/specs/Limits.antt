-- The limits of this project's profile, as numbers. The constants of the code meet them in the proofs.
use Rattle.std.specs.Prelude.{ℕ}

-- bytes of a mode word
abbrev pub most_mode_word_bytes : ℕ
most_mode_word_bytes = 64

-- bytes of a label
abbrev pub most_label_bytes : ℕ
most_label_bytes = 255

-- bytes of a text of rules
abbrev pub most_text_bytes : ℕ
most_text_bytes = 16777216
