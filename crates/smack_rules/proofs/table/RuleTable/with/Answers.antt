use Rattle.std.proofs.Common.{List, map, ap, ◌∙◌, subst}
use Rattle.std.specs.List.Sorted.{IsStrictlySortedBy}
use Rattle.smack_rules.specs.declared.table.PairModes.{PairModes}
use Rattle.smack_rules.specs.Effective.{effective_from}
use Rattle.smack_rules.specs.parts.Order.{pair_cmp}
use Rattle.smack_rules.specs.parts.Pairs.{pair_of}
use Rattle.smack_rules.proofs.Further.{granted-by, behind-from}
use Rattle.smack_rules.proofs.table.RuleTable.with.Goals as goal

pub returns-clause-from : goal.returns-clause-from
returns-clause-from c =
    let table = c.args.self.now in
    let rules = c.args.rules.now in
    let sorted : IsStrictlySortedBy pair_cmp (map pair_of table) =
    subst (λ (pairs : List PairModes). IsStrictlySortedBy pair_cmp (map pair_of pairs)) c.self.view_is c.self.invariant in
    let start = c.new-changes.result.changes.items in
    let kept = c.follow_pairs.new.changes.changes.items in
    λ s o. c.in_ok-table.ensures s o ∙ c.in_ok-follow_rules.ensures s o
    ∙ ap (λ modes. effective_from modes rules s o)
    (granted-by table c.as_slice.result.now start kept sorted (c.as_slice.ensures.value ∙ c.self.view_is) c.new-changes.ensures
    c.in_ok-follow_pairs.ensures s o)

pub returns-clause-behind : goal.returns-clause-behind
returns-clause-behind c = behind-from c.args.self.now c.in_ok-table.table c.args.rules.now (returns-clause-from c)
