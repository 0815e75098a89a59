use Rattle.std.proofs.Common.{◌≡◌}
use Rattle.crossbeam_queue.specs.Passes.{view, IsPassOf}
use Rattle.check_monitor.specs.Monitor.{with_joined_all}
use Rattle.check_monitor.proofs.readers.joined.Given as goal

-- the recorders so far were taken in
abbrev pub invariant-loop-recorder : goal.invariant-loop-recorder
invariant-loop-recorder l = IsPassOf l.queue l.pass × (view l.pass ≡ with_joined_all l.yielded (view l.fn.pass))
