use Rattle.std.proofs.Common.{subst}
use Rattle.desk_world.specs.Grows.{Grows}
use Rattle.desk_world.specs.parts.Parts.{world_of}
use Rattle.desk_world.proofs.Runs.{copied-steps}
use Rattle.desk_world.proofs.worlds.run.Goals as goal

pub invariant_of-result : goal.invariant_of-result
invariant_of-result c =
    let step = copied-steps c.args.events.now (world_of c.world.inside.parts) (world_of c.in-Ok.parts)
    (world_of c.run_all.new.world) c.world.invariant c.in-Ok.ensures c.in-Ok-run_all.ensures.done in
    step.kept

pub returns-in-Ok-run_all-clause-grows : goal.returns-in-Ok-run_all-clause-grows
returns-in-Ok-run_all-clause-grows c =
    let step = copied-steps c.args.events.now (world_of c.world.inside.parts) (world_of c.in-Ok.parts)
    (world_of c.run_all.new.world) c.world.invariant c.in-Ok.ensures c.in-Ok-run_all.ensures.done in
    subst (λ w. Grows w (world_of c.run_all.new.world)) c.world.view_is step.grows

pub returns-in-Ok-run_all-clause-kept : goal.returns-in-Ok-run_all-clause-kept
returns-in-Ok-run_all-clause-kept c =
    let step = copied-steps c.args.events.now (world_of c.world.inside.parts) (world_of c.in-Ok.parts)
    (world_of c.run_all.new.world) c.world.invariant c.in-Ok.ensures c.in-Ok-run_all.ensures.done in
    step.kept

pub returns-in-Ok-run_all-clause-sound : goal.returns-in-Ok-run_all-clause-sound
returns-in-Ok-run_all-clause-sound c =
    let step = copied-steps c.args.events.now (world_of c.world.inside.parts) (world_of c.in-Ok.parts)
    (world_of c.run_all.new.world) c.world.invariant c.in-Ok.ensures c.in-Ok-run_all.ensures.done in
    step.kept.given
