use Rattle.std.proofs.Common.{[], arith, rules}
use Rattle.wire_reading.proofs.Settling.{short_open}
use Rattle.wire_reading.proofs.feeding.Feeder.new.Goals as goal

pub invariant_of-result : goal.invariant_of-result
invariant_of-result c = (rw c.new-2.ensures (short_open c.args.heard [] (omega arith)), search rules)
