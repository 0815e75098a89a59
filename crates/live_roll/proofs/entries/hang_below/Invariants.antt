use Rattle.live_roll.specs.Places.{IsHungUpIf, is_below}
use Rattle.live_roll.proofs.Walking.{Done}
use Rattle.live_roll.proofs.entries.hang_below.Given as goal

-- the places so far are done
abbrev pub invariant-loop-place : goal.invariant-loop-place
invariant-loop-place g l =
    Done (λ place now. IsHungUpIf g.H.HangEnd.used (is_below l.low place) place now) l.place-index l.fn.places l.places
