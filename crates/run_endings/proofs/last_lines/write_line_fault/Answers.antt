use Rattle.std.proofs.Common.{◌++◌, codes}
use Rattle.std.specs.Fmt.{decimal}
use Rattle.desk_ports.proofs.Appends.{AppendedPart-front, AppendedPart-then}
use Rattle.run_endings.specs.LastLine.{line_text}
use Rattle.run_endings.proofs.Outcomes.{on_err, on_err-map}
use Rattle.run_endings.proofs.last_lines.write_line_fault.Goals as goal

pub returns-in_err-write_all-clause-err : goal.returns-in_err-write_all-clause-err
unfolding line_text
returns-in_err-write_all-clause-err g c =
    on_err c.from_residual.result (AppendedPart-front _ _ (codes "syntax ") _ c.in_err-write_all.ensures.err)

pub returns-clause-err : goal.returns-clause-err
unfolding line_text
returns-clause-err g c =
    on_err-map c.write_last_number.result
    (λ part. AppendedPart-then _ _ _ (codes "syntax ") (decimal c.args.line ++ codes "\n") c.in_ok-write_all.ensures.ok part)
    c.write_last_number.ensures.err
