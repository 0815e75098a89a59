use Rattle.desk_world.specs.Events.{run}
use Rattle.desk_world.specs.parts.Parts.{world_of}
use Rattle.desk_world.proofs.Turning.{IsTurning}
use Rattle.desk_world.proofs.running.run_all.Given as goal

abbrev pub invariant-loop-at : goal.invariant-loop-at
invariant-loop-at l = IsTurning (world_of l.world) l.events l.at (run (world_of l.fn.world) l.events)
