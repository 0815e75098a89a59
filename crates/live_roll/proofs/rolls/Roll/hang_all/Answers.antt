use Rattle.live_roll.proofs.Keeping.{items_written, hung_roll}
use Rattle.live_roll.proofs.rolls.Roll.hang_all.Goals as goal

-- the ends that are not hung up entered at the note, and the log says up to which commit they were
pub invariant_of-self : goal.invariant_of-self
invariant_of-self g c =
    let lent = c.as_mut_slice.ensures.value in
    let same = rw lent at c.hang_below.auto.places in
    rw (items_written c.self.inside.places c.hang_below.new.places same, c.max-now.ensures)
    (hung_roll g.H.HangEnd.used _ c.args.note c.hang_below.new.places c.logged-log.result c.self.invariant
    (rw (lent, c.max-now.ensures) at c.hang_below.ensures) c.logged-log.ensures)
