use Rattle.std.proofs.Common.{map, ap, ◌∙◌}
use Rattle.smack_rules.specs.Modes.{no_access}
use Rattle.smack_rules.specs.Table.{granted}
use Rattle.smack_rules.specs.parts.Changes.{pair_modes}
use Rattle.smack_rules.proofs.SortedPairs.{granted-pair_modes, pair_of-pair_modes}
use Rattle.smack_rules.proofs.table.table_of.Goals as goal

pub invariant_of-result : goal.invariant_of-result
invariant_of-result c =
    rw (c.in_ok-pairs.ensures, c.as_slice.ensures.value, pair_of-pair_modes c.in_ok-joined.joined.items) c.in_ok-joined.ensures.sorted

pub returns : goal.returns
returns c =
    λ s o. ap (λ table. granted table s o) (c.in_ok-pairs.ensures ∙ ap (map pair_modes) c.as_slice.ensures.value)
    ∙ granted-pair_modes c.in_ok-joined.joined.items c.in_ok-joined.ensures.sorted s o
    ∙ c.in_ok-joined.ensures.same s o no_access
