use Rattle.live_roll.proofs.Keeping.{items_written, stopped_roll}
use Rattle.live_roll.proofs.rolls.Roll.stop.Goals as goal

-- all ends are hung up
pub invariant_of-self : goal.invariant_of-self
invariant_of-self g c =
    let lent = c.as_mut_slice.ensures.value in
    let same = rw lent at c.hang_each.auto.places in
    rw (items_written c.self.inside.places c.hang_each.new.places same)
    (stopped_roll g.H.HangEnd.used _ c.hang_each.new.places c.self.invariant (rw lent at c.hang_each.ensures))
