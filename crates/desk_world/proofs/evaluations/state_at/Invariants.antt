use Rattle.std.proofs.Common.{◌≡◌, drop}
use Rattle.desk_world.specs.World.{desk_at}
use Rattle.desk_world.proofs.evaluations.state_at.Given as goal

-- the states that are left have the one of this commit, if there is one
abbrev pub invariant-loop-state : goal.invariant-loop-state
invariant-loop-state l = desk_at l.commit (drop l.state-index l.later) ≡ desk_at l.commit l.later
