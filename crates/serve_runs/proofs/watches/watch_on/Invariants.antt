use Rattle.std.proofs.Common.{ℕ}
use Rattle.serve_runs.proofs.watches.watch_on.Given as goal

abbrev pub invariant-loop : goal.invariant-loop
invariant-loop g l =
    (goal.iterator-loop g).can_next l.iterator'
    × ((goal.iterator-loop g).is_finite l.iterator'
    × ((turns : ℕ) × g.C.Task.goes l.fn.task turns l.task))
