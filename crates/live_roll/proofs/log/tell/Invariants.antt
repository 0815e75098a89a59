use Rattle.std.proofs.Common.{◌≡◌}
use Rattle.live_roll.proofs.log.tell.Given as goal

-- where it is told again, it was not told before
abbrev pub invariant-loop : goal.invariant-loop
invariant-loop g l =
    (goal.iterator-loop g).can_next l.iterator' × (goal.iterator-loop g).is_finite l.iterator'
    × (l.seat ≡ l.initial.seat)
