use Rattle.std.proofs.Common.{◌++◌}
use Rattle.std.proofs.lemmas.Result.{err_from_is_err_and}
use Rattle.desk_ports.proofs.Readings.{Took-then}
use Rattle.access_runs.proofs.access_runs.read_text.Goals as goal

pub returns-in_err-read_more-clause-stopped : goal.returns-in_err-read_more-clause-stopped
returns-in_err-read_more-clause-stopped g c =
    let exit = err_from_is_err_and c.from_residual-in_err-read_more.result c.from_residual-in_err-read_more.ensures.1 in
    let stopped = c.in_err-read_more.ensures.stopped in
    rw (exit.1, exit.2) (
      stopped.0,
      (
        c.pieces.text ++ stopped.1.0,
        Took-then (g.S.Source.left c.args.source.now) (g.S.Source.left c.pieces.source)
            (g.S.Source.left c.read_more.new.source)
            c.pieces.text stopped.1.0 c.pieces.invariant.took stopped.1.1,
      ),
    )
