use Rattle.std.proofs.Common.{sym, subst}
use Rattle.bucket_store.specs.parts.Ending.{ChangeEnds}
use Rattle.bucket_store.proofs.endings.change_ends.Goals as goal

pub returns-in-Set-clause-ends : goal.returns-in-Set-clause-ends
returns-in-Set-clause-ends c =
    λ yes. subst (ChangeEnds c.args.buckets.now) (sym c.in-Set.is) (c.link_ends.ensures.ends yes)
