use Rattle.std.proofs.Common.{◌≤◌, ap, subst, arith, length, List, rules}
use mathlib.Core.List.{IsPrefix}
use Rattle.state_list.proofs.Beginnings.{prefix_shorter, prefix_along}
use Rattle.state_list.proofs.fronts.Front.catch_up.Goals as goal

pub returns-clause-begins : goal.returns-clause-begins
returns-clause-begins g c =
    let S = g.row.S.Denot in
    let both = c.learn.new.self.log in
    let this : IsPrefix c.self.inside.seen.log both =
    subst (λ (l : List S). IsPrefix l both) (ap (λ s. s.log) c.again-both.ensures) c.learn.ensures.2 in
    let less : length c.self.inside.seen.log ≤ length c.other.inside.seen.log =
    omega (arith, c.self.invariant.0, c.other.invariant.0, c.if-self-other.false) in
    prefix_along c.self.inside.seen.log _ c.other.inside.seen.log _
    (prefix_shorter c.self.inside.seen.log c.other.inside.seen.log both this c.learn.ensures.3 less) (search rules) (search rules)
