use Rattle.std.proofs.Common.{◌≡◌}
use Rattle.live_desk.specs.Seat.{new_seats}
use Rattle.live_desk.proofs.starting.seats_of.Given as goal

-- the seats so far
abbrev pub invariant-loop-number : goal.invariant-loop-number
invariant-loop-number g l = l.seats.items ≡ new_seats l.number
