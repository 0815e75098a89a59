use Rattle.std.proofs.Common.{rules, refl, sym, subst, slice_set}
use Rattle.live_roll.specs.Places.{IsCurrent}
use Rattle.live_roll.proofs.Keeping.{entered_roll}
use Rattle.live_roll.proofs.rolls.Roll.enter.Goals as goal

-- the end that came into the place entered at the note, and the log says so
pub invariant_of-self : goal.invariant_of-self
invariant_of-self g c =
    entered_roll g.H.HangEnd.used _ c.place-at.result c.enter.new.place
    (slice_set c.self.inside.places.items c.place-at.result c.enter.new.place) c.logged-log.result c.self.invariant c.if-self.false
    (subst (IsCurrent g.H.HangEnd.used c.self.inside.note) (sym c.enter.ensures) (λ _. refl)) refl (search rules) c.logged-log.ensures
