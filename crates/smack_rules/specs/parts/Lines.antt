-- How the words of a rule line are read.
use Rattle.std.specs.Prelude.{ℕ, List, Option, Some, None, Result, Ok, Err}
use Rattle.smack_rules.specs.declared.modes.Modes.{Modes}
use Rattle.smack_rules.specs.declared.rule.Rule.{Rule}
use Rattle.smack_rules.specs.declared.rule.Rule.TheVariants.{Set, Adjust}
use Rattle.smack_rules.specs.declared.rule.LineRefusal.{LineRefusal}

-- the rule of two labels: one mode word sets, two adjust
abbrev pub spelled_rule : List ℕ → List ℕ → Modes → Option Modes → Rule
spelled_rule subject object modes None = Set subject object modes
spelled_rule subject object modes (Some deny) = Adjust subject object modes deny

-- the same, where the mode words were read
abbrev pub rule_with : List ℕ → List ℕ → Result (Modes × Option Modes) LineRefusal → Result (Option Rule) LineRefusal
rule_with subject object (Ok modes) = Ok (Some (spelled_rule subject object modes.0 modes.1))
rule_with subject object (Err refusal) = Err refusal
