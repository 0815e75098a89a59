use Rattle.ctl_door.specs.Settling.{IsToldOfOne}
use Rattle.ctl_door.proofs.settling.settled_state.Given as goal

abbrev pub invariant-turns : goal.invariant-turns
invariant-turns g l = IsToldOfOne l.settled
