use Rattle.std.proofs.Common.{◌≡◌}
use Rattle.live_desk.proofs.publishers.queue.Given as goal

-- where it is tried again, it came back as it was
abbrev pub invariant-loop : goal.invariant-loop
invariant-loop g l =
    (goal.iterator-loop g).can_next l.iterator' × (goal.iterator-loop g).is_finite l.iterator'
    × (l.shown ≡ l.fn.shown)
