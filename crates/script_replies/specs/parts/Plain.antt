-- Rules that take nothing away, of labels that no case of the decision names.
use Rattle.std.specs.Prelude.{Bool, false, not, ◌&&◌, List}
use Rattle.std.specs.List.{list_all}
use Rattle.smack_rules.specs.Decision.{is_hat, is_floor}
use Rattle.smack_rules.specs.Modes.{is_empty}
use Rattle.smack_rules.specs.declared.rule.Rule.{Rule}
use Rattle.smack_rules.specs.declared.rule.Rule.TheVariants.{Set, Adjust}

abbrev pub is_plain : Rule → Bool
is_plain (Adjust subject object allow deny) = is_empty deny && (not (is_hat subject) && not (is_floor object))
is_plain (Set subject object modes) = false

abbrev pub are_plain : List Rule → Bool
are_plain rules = list_all is_plain rules
