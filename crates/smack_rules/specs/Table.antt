-- Rule tables: a flat list of pairs of labels, each with its modes.
use Rattle.std.specs.Prelude.{ℕ, List, [], ◌∷◌, if◌then◌else◌}
use Rattle.smack_rules.specs.declared.modes.Modes.{Modes}
use Rattle.smack_rules.specs.declared.table.PairModes.{PairModes}
use Rattle.smack_rules.specs.Modes.{no_access}
use Rattle.smack_rules.specs.Rule.{is_pair}

-- the modes that a table grants a pair: no access where it has none
abbrev pub granted : List PairModes → List ℕ → List ℕ → Modes
granted [] s o = no_access
granted (pair ∷ pairs) s o = if is_pair pair.subject pair.object s o then pair.modes else granted pairs s o
