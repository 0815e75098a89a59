use Rattle.std.proofs.Common.{◌≡◌, length}
use Rattle.live_roll.specs.Places.{IsVacant}
use Rattle.live_roll.proofs.rolls.vacant_places.Given as goal

-- the places before this one
abbrev pub invariant-loop-seat : goal.invariant-loop-seat
invariant-loop-seat g l = IsVacant l.places.items × (l.seat ≡ length l.places.items)
