use Rattle.std.proofs.Common.{subst}
use Rattle.live_roll.specs.Events.{NoneBelow}
use Rattle.live_roll.specs.Roll.{RollState}
use Rattle.live_roll.proofs.Following.{none_below}
use Rattle.live_roll.proofs.rolls.Roll.known.Goals as goal

pub returns-clause-none_below : goal.returns-clause-none_below
returns-clause-none_below g c =
    subst (λ (roll : RollState _). NoneBelow roll.events) c.self.view_is (none_below c.self.inside.opened.value _ c.self.invariant.above)
