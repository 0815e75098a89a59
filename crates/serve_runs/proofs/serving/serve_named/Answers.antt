use Rattle.std.proofs.Common.{◌∙◌, length, sym, ap}
use Rattle.serve_runs.proofs.Pooling.{seats_are}
use Rattle.serve_runs.proofs.serving.serve_named.Goals as goal

pub run_workers-served-requires-clause-seats : goal.run_workers-served-requires-clause-seats
run_workers-served-requires-clause-seats g c κs within =
    c.requires.handlers ∙ sym (ap length c.in-Ok.ensures.seats ∙ seats_are c.args.workers)
