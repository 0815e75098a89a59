use Rattle.std.proofs.Common.{subst, arith}
use Rattle.live_roll.specs.Places.{IsHungUp}
use Rattle.live_roll.proofs.Walking.{Done, done_next, all_hung}
use Rattle.live_roll.proofs.entries.hang_each.Goals as goal

-- one place more
pub loop-place-preserved : goal.loop-place-preserved
loop-place-preserved g c =
    done_next (IsHungUp g.H.HangEnd.used) c.loop-place.place-index c.args.places.now c.loop-place.places c.hang_up.new.place _
    c.loop-place-test.true c.loop-place.invariant c.hang_up.ensures

pub returns : goal.returns
returns g c =
    all_hung g.H.HangEnd.used c.args.places.now c.loop-place.places
    (subst (λ count. Done (IsHungUp g.H.HangEnd.used) count c.args.places.now c.loop-place.places)
    (omega (arith, c.loop-place-test.false, c.loop-place.auto)) c.loop-place.invariant)
