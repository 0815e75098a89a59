use Rattle.std.proofs.Common.{subst, arith}
use Rattle.live_roll.specs.Places.{IsHungUpIf, is_below}
use Rattle.live_roll.proofs.Walking.{Done, done_next, all_hung_below}
use Rattle.live_roll.proofs.entries.hang_below.Goals as goal

-- one place more
pub loop-place-preserved : goal.loop-place-preserved
loop-place-preserved g c =
    done_next (λ place now. IsHungUpIf g.H.HangEnd.used (is_below c.args.low place) place now) c.loop-place.place-index
    c.args.places.now c.loop-place.places c.hang_if_below.new.place _
    c.loop-place-test.true c.loop-place.invariant c.hang_if_below.ensures

pub returns : goal.returns
returns g c =
    all_hung_below g.H.HangEnd.used c.args.low c.args.places.now c.loop-place.places
    (subst (λ count. Done (λ place now. IsHungUpIf g.H.HangEnd.used (is_below c.args.low place) place now) count
    c.args.places.now c.loop-place.places) (omega (arith, c.loop-place-test.false, c.loop-place.auto)) c.loop-place.invariant)
