use Rattle.std.proofs.Common.{[], arith, rules}
use Rattle.wire_reading.proofs.Settling.{short_open}
use Rattle.wire_reading.proofs.feeding.Feeder.feed.Goals as goal

pub invariant_of-self : goal.invariant_of-self
invariant_of-self c = (rw c.clear.ensures (short_open c.self-2.inside.heard [] (omega arith)), search rules)
