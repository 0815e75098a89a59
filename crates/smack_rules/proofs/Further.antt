-- A table with further rules behind it.
use Rattle.std.proofs.Common.{◌≡◌, ℕ, List, [], ◌++◌, map, sym, ap, ◌∙◌}
use Rattle.std.specs.List.Sorted.{IsStrictlySortedBy}
use Rattle.smack_rules.specs.declared.changes.PairChange.{PairChange}
use Rattle.smack_rules.specs.declared.rule.Rule.{Rule}
use Rattle.smack_rules.specs.declared.table.PairModes.{PairModes}
use Rattle.smack_rules.specs.Effective.{effective_from}
use Rattle.smack_rules.specs.Grants.{GrantsFrom, GrantsBehind}
use Rattle.smack_rules.specs.Modes.{no_access}
use Rattle.smack_rules.specs.Table.{granted}
use Rattle.smack_rules.specs.parts.Changes.{modes_after, pair_change, ChangeAlike}
use Rattle.smack_rules.specs.parts.Order.{pair_cmp}
use Rattle.smack_rules.specs.parts.Pairs.{pair_of}
use Rattle.smack_rules.proofs.RuleLists.{effective_from-append}
use Rattle.smack_rules.proofs.SortedPairs.{pair_changes-granted}

-- what the changes behind none make that give each pair its modes
pub granted-by : (table pairs : List PairModes) (start changes : List PairChange) → IsStrictlySortedBy pair_cmp (map pair_of table)
    → pairs ≡ table → start ≡ [] → ChangeAlike changes (start ++ map pair_change pairs)
    → (s o : List ℕ) → modes_after changes s o no_access ≡ granted table s o
granted-by table pairs start changes sorted same none alike s o =
    alike s o no_access
    ∙ (λ i. modes_after (none i ++ map pair_change (same i)) s o no_access)
    ∙ pair_changes-granted table sorted s o

pub behind-from : (earlier table : List PairModes) (rules : List Rule) → GrantsFrom earlier table rules
    → GrantsBehind earlier table rules
behind-from earlier table rules from first as_first s o =
    from s o ∙ ap (λ modes. effective_from modes rules s o) (as_first s o) ∙ sym (effective_from-append no_access first rules s o)
