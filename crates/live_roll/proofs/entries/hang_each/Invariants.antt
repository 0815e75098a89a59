use Rattle.live_roll.specs.Places.{IsHungUp}
use Rattle.live_roll.proofs.Walking.{Done}
use Rattle.live_roll.proofs.entries.hang_each.Given as goal

-- the places so far are done
abbrev pub invariant-loop-place : goal.invariant-loop-place
invariant-loop-place g l = Done (IsHungUp g.H.HangEnd.used) l.place-index l.fn.places l.places
