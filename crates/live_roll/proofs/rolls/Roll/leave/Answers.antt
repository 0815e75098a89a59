use Rattle.std.proofs.Common.{rules, subst, None, get_or}
use Rattle.std.proofs.lemmas.List.{get_or_read_under}
use Rattle.live_roll.specs.Places.{IsLeft}
use Rattle.live_roll.specs.Roll.{RollState}
use Rattle.live_roll.proofs.rolls.Roll.leave.Goals as goal

pub returns-then-entered-now-clause-left : goal.returns-then-entered-now-clause-left
returns-then-entered-now-clause-left g c = (
  c.leave.new.place,
  subst (λ (roll : RollState _). IsLeft g.H.HangEnd.used (get_or roll.places c.args.seat None) c.leave.new.place)
      c.self.view_is
      (subst (λ place. IsLeft g.H.HangEnd.used place c.leave.new.place)
      (get_or_read_under c.self.inside.places.items c.args.seat c.self.inside.places.len _ None c.index_mut.ensures.value
      (search rules) (search rules)) c.leave.ensures),
  search rules,
)

pub returns-then-self-clause-left : goal.returns-then-self-clause-left
returns-then-self-clause-left g c = (
  c.leave.new.place,
  subst (λ (roll : RollState _). IsLeft g.H.HangEnd.used (get_or roll.places c.args.seat None) c.leave.new.place)
      c.self.view_is
      (subst (λ place. IsLeft g.H.HangEnd.used place c.leave.new.place)
      (get_or_read_under c.self.inside.places.items c.args.seat c.self.inside.places.len _ None c.index_mut.ensures.value
      (search rules) (search rules)) c.leave.ensures),
  search rules,
)

pub returns-clause-left : goal.returns-clause-left
returns-clause-left g c = (
  c.leave.new.place,
  subst (λ (roll : RollState _). IsLeft g.H.HangEnd.used (get_or roll.places c.args.seat None) c.leave.new.place)
      c.self.view_is
      (subst (λ place. IsLeft g.H.HangEnd.used place c.leave.new.place)
      (get_or_read_under c.self.inside.places.items c.args.seat c.self.inside.places.len _ None c.index_mut.ensures.value
      (search rules) (search rules)) c.leave.ensures),
  search rules,
)
