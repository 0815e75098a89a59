use Rattle.std.proofs.lemmas.Result.{err_from_is_err_and}
use Rattle.wire_reading.proofs.Settling.{no_step, step_then, step_wrong}
use Rattle.wire_reading.proofs.feeding.Feeder.hear.Goals as goal

pub loop-rest-init : goal.loop-rest-init
loop-rest-init c = no_step c.args.self.now c.args.piece.now c.requires.open_frame

pub returns-in_err-rest-clause-refused : goal.returns-in_err-rest-clause-refused
returns-in_err-rest-clause-refused c =
    let exit = err_from_is_err_and c.from_residual.result c.from_residual.ensures.1 in
    rw (exit.1, exit.2) (step_wrong c.args.self.now c.loop-rest.self c.step.new.self c.args.piece.now
    c.loop-rest.rest.now
    c.in_err-rest.field-0.0 c.loop-rest.invariant c.in_err-rest.ensures.refused)

pub loop-rest-preserved : goal.loop-rest-preserved
loop-rest-preserved c =
    step_then c.args.self.now c.loop-rest.self c.step.new.self c.args.piece.now c.loop-rest.rest.now
    c.in_ok-rest.rest.now
    c.loop-rest.invariant c.in_ok-rest.ensures.stepped
