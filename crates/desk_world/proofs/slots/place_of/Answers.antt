use Rattle.desk_world.proofs.Places.{place_tells}
use Rattle.std.proofs.Common.{sym, subst, MatchOption}
use Rattle.desk_world.specs.parts.Slots.{IsPlace, IsAbsent}
use Rattle.desk_world.proofs.slots.place_of.Goals as goal

pub returns : goal.returns
returns c =
    subst (λ place. MatchOption place (IsAbsent c.args.slots.now c.args.number) (IsPlace c.args.slots.now c.args.number))
    (sym c.first_of.ensures) (place_tells c.args.number c.args.slots.now)
