use Rattle.std.proofs.Common.{codes}
use Rattle.std.specs.Fmt.{decimal}
use Rattle.desk_ports.proofs.Appends.{AppendedPart-front, AppendedPart-then}
use Rattle.run_endings.proofs.Outcomes.{on_err, on_err-map}
use Rattle.run_endings.proofs.last_lines.write_last_number.Goals as goal

pub returns-in_err-write_number-clause-err : goal.returns-in_err-write_number-clause-err
returns-in_err-write_number-clause-err g c =
    on_err c.from_residual.result (AppendedPart-front _ _ (decimal c.args.number) (codes "\n") c.in_err-write_number.ensures.err)

pub returns-clause-err : goal.returns-clause-err
returns-clause-err g c =
    on_err-map c.write_all.result
    (λ part. AppendedPart-then _ _ _ (decimal c.args.number) (codes "\n") c.in_ok-write_number.ensures.ok part)
    c.write_all.ensures.err
