-- Placeholders: the words of a template that stand for labels of a package.
use Rattle.std.specs.Prelude.{ℕ, Bool, false, ◌==◌, List, [], ◌∷◌, Option, codes, find}
use Rattle.std.specs.Str.{bytes_eq}
use Rattle.rule_templates.specs.declared.placeholders.Placeholder.{Placeholder}
use Rattle.rule_templates.specs.declared.placeholders.Placeholder.TheVariants.{Process, PathRw, PathRo, Author}

-- the word of each
abbrev pub placeholder_text : Placeholder → List ℕ
placeholder_text Process = codes "~PROCESS~"
placeholder_text PathRw = codes "~PATH_RW~"
placeholder_text PathRo = codes "~PATH_RO~"
placeholder_text Author = codes "~AUTHOR~"

abbrev pub placeholders : List Placeholder
placeholders = Process ∷ PathRw ∷ PathRo ∷ Author ∷ []

-- the placeholder that a word is
abbrev pub placeholder_of : List ℕ → Option Placeholder
placeholder_of word = find (λ placeholder. bytes_eq word (placeholder_text placeholder)) placeholders

-- the byte `~` at the front
abbrev pub begins_with_tilde : List ℕ → Bool
begins_with_tilde [] = false
begins_with_tilde (byte ∷ bytes) = byte == 126
