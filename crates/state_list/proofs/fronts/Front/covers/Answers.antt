use Rattle.std.proofs.Common.{ap, subst, List, rules}
use mathlib.Core.List.{IsPrefix}
use Rattle.state_list.proofs.Beginnings.{covered}
use Rattle.state_list.proofs.fronts.Front.covers.Goals as goal

pub returns : goal.returns
returns g c =
    let S = g.row.S.Denot in
    let both = c.learn.new.self.log in
    let this : IsPrefix c.self.inside.seen.log both =
    subst (λ (l : List S). IsPrefix l both) (ap (λ s. s.log) c.again-both.ensures) c.learn.ensures.2 in
    covered c.self.inside.seen.log c.args.self.now c.other.inside.seen.log c.args.other.now both c.self.inside.count
    c.other.inside.count this c.learn.ensures.3 c.self.invariant.0 c.other.invariant.0 (search rules) (search rules)
