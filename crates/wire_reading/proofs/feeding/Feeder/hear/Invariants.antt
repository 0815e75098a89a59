use Rattle.std.proofs.Common.{length}
use Rattle.wire_reading.specs.parts.Feeding.{Stepped}
use Rattle.wire_reading.proofs.feeding.Feeder.hear.Given as goal

abbrev pub invariant-loop-rest : goal.invariant-loop-rest
invariant-loop-rest l = Stepped l.fn.self l.self l.fn.piece l.rest

abbrev pub decreases-loop-rest : goal.decreases-loop-rest
decreases-loop-rest l = length l.rest
