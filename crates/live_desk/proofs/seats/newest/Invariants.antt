use Rattle.live_desk.specs.History.{GoesOn}
use Rattle.live_desk.proofs.seats.newest.Given as goal

-- what was seen goes on where it did at first
abbrev pub invariant-loop : goal.invariant-loop
invariant-loop g l =
    (goal.iterator-loop g).can_next l.iterator' × (goal.iterator-loop g).is_finite l.iterator'
    × GoesOn l.initial.front l.front
