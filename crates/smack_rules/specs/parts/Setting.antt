-- The rules that set the modes of a pair.
use Rattle.std.specs.Prelude.{ℕ, List, Option, Some, None, if◌then◌else◌}
use Rattle.smack_rules.specs.declared.modes.Modes.{Modes}
use Rattle.smack_rules.specs.declared.rule.Rule.{Rule}
use Rattle.smack_rules.specs.declared.rule.Rule.TheVariants.{Set, Adjust}
use Rattle.smack_rules.specs.Rule.{is_pair}

-- what a rule sets a pair to, whatever it had before
abbrev pub modes_set : List ℕ → List ℕ → Rule → Option Modes
modes_set s o (Set subject object modes) = if is_pair subject object s o then Some modes else None
modes_set s o (Adjust subject object allow deny) = None
