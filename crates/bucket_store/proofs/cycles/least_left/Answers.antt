use Rattle.std.proofs.Common.{arith}
use Rattle.bucket_store.proofs.Ending.{none-on}
use Rattle.bucket_store.proofs.cycles.least_left.Goals as goal

pub returns : goal.returns
returns c =
    none-on c.args.buckets.now c.requires.rise
    (λ at lt. c.loop-at.invariant.1 at (omega (arith, lt, c.loop-at-test.false)))
