use Rattle.std.proofs.Common.{◌≡◌, drop}
use Rattle.desk_world.specs.World.{latest_of}
use Rattle.desk_world.proofs.commit_events.latest.Given as goal

-- the states that are left lead to the last one
abbrev pub invariant-loop-state : goal.invariant-loop-state
invariant-loop-state l = latest_of l.latest (drop l.state-index l.later) ≡ latest_of l.first l.later
