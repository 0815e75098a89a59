use Rattle.std.proofs.Common.{ap, ◌∙◌, rules}
use Rattle.std.proofs.lemmas.Fn.{always_returns_same}
use Rattle.std.proofs.lemmas.List.Sorted.{ranks_by}
use Rattle.smack_rules.specs.declared.changes.PairChange.{PairChange}
use Rattle.smack_rules.specs.parts.Changes.{joined, modes_after}
use Rattle.smack_rules.proofs.PairOrder.{pair_total}
use Rattle.smack_rules.proofs.ChangeLists.{stands_before, ChangeAlike-sorted, ChangeAlike-joined, sorted-joined}
use Rattle.smack_rules.proofs.changes.join.Goals as goal

pub returns-clause-same : goal.returns-clause-same
returns-clause-same c =
    let old = c.args.changes.now.items in
    let sorted = c.sort_by.new.self.items in
    let stable =
    c.in_ok-sort_by.ensures.stable stands_before (ranks_by pair_total (λ (change : PairChange). change.key))
    (always_returns_same _ _ _ (λ a r f called. search rules)) in
    λ s o modes. ap (λ changes. modes_after changes s o modes) (c.in_ok-changes.ensures ∙ ap joined c.as_slice.ensures.value)
    ∙ ChangeAlike-joined sorted s o modes ∙ ChangeAlike-sorted old sorted stable s o modes

pub returns-clause-sorted : goal.returns-clause-sorted
returns-clause-sorted c =
    let sorted =
    c.in_ok-sort_by.ensures.sorted stands_before (ranks_by pair_total (λ (change : PairChange). change.key))
    (always_returns_same _ _ _ (λ a r f called. search rules)) in
    rw (c.in_ok-changes.ensures, c.as_slice.ensures.value) (sorted-joined c.sort_by.new.self.items sorted)
