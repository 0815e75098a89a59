use Rattle.std.proofs.Common.{◌≡◌}
use Rattle.check_monitor.specs.Monitor.{new_recorders}
use Rattle.check_monitor.proofs.opening.recorders_of.Given as goal

-- the recorders so far
abbrev pub invariant-loop-worker : goal.invariant-loop-worker
invariant-loop-worker l =
    (l.recorders.items ≡ new_recorders l.fn.reader.queue l.fn.reader.room l.worker) × (l.reader ≡ record l.fn.reader { made = l.worker })
