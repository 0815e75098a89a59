use Rattle.std.proofs.Common.{sym}
use Rattle.desk_world.specs.Events.{run}
use Rattle.desk_world.specs.parts.Parts.{world_of}
use Rattle.desk_world.proofs.Turning.{became, turn_done}
use Rattle.desk_world.proofs.running.run_all.Goals as goal

pub loop-at-preserved : goal.loop-at-preserved
loop-at-preserved c =
    turn_done (world_of c.loop-at.world) (world_of c.step.new.world) c.args.events.now c.loop-at.at
    (run (world_of c.args.world.now) c.args.events.now) c.index-events-at.result c.loop-at-test.true
    (sym c.index-events-at.is) c.loop-at.invariant
    (became _ c.in-Ok-true.field-0 (world_of c.step.new.world) c.in-Ok-true.ensures c.in-Ok-true.field-0-test)
