-- The one spelling of a rule.
use Rattle.std.specs.Prelude.{ℕ, List, [], ◌∷◌}
use Rattle.std.specs.List.{join_with_byte}
use Rattle.smack_rules.specs.declared.rule.Rule.{Rule}
use Rattle.smack_rules.specs.declared.rule.Rule.TheVariants.{Set, Adjust}
use Rattle.smack_rules.specs.Modes.{spelling}

-- words, parted by one space
abbrev pub parted : List (List ℕ) → List ℕ
parted words = join_with_byte 32 words

-- the words of a rule
abbrev pub words_of_rule : Rule → List (List ℕ)
words_of_rule (Set subject object modes) = subject ∷ object ∷ spelling modes ∷ []
words_of_rule (Adjust subject object allow deny) = subject ∷ object ∷ spelling allow ∷ spelling deny ∷ []

-- a rule's line without its newline: its words, parted by one space
abbrev pub rule_text : Rule → List ℕ
rule_text rule = parted (words_of_rule rule)
