-- The pairs of a table.
use Rattle.smack_rules.specs.declared.table.PairModes.{PairModes}
use Rattle.smack_rules.specs.parts.Order.{LabelPair}

abbrev pub pair_of : PairModes → LabelPair
pair_of pair = record { subject = pair.subject; object = pair.object }
