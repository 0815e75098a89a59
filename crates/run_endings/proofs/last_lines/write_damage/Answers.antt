use Rattle.std.proofs.Common.{◌++◌, codes}
use Rattle.std.specs.Fmt.{decimal}
use Rattle.desk_ports.proofs.Appends.{AppendedPart-front, AppendedPart-then}
use Rattle.run_endings.specs.LastLine.{damaged_text}
use Rattle.run_endings.proofs.Outcomes.{on_err, on_err-map}
use Rattle.run_endings.proofs.last_lines.write_damage.Goals as goal

pub returns-in_err-write_all-clause-err : goal.returns-in_err-write_all-clause-err
unfolding damaged_text
returns-in_err-write_all-clause-err g c =
    on_err c.from_residual.result (AppendedPart-front _ _ (codes "damaged ") _ c.in_err-write_all.ensures.err)

pub returns-in_err-write_name-clause-err : goal.returns-in_err-write_name-clause-err
unfolding damaged_text
returns-in_err-write_name-clause-err g c =
    on_err c.from_residual-in_err-write_name.result
    (AppendedPart-then _ _ _ (codes "damaged ") (c.args.file.now ++ (codes " " ++ (decimal c.args.line ++ codes "\n")))
    c.in_ok-write_all.ensures.ok
    (AppendedPart-front _ _ c.args.file.now (codes " " ++ (decimal c.args.line ++ codes "\n")) c.in_err-write_name.ensures.err))

pub returns-in_err-write_all-2-clause-err : goal.returns-in_err-write_all-2-clause-err
unfolding damaged_text
returns-in_err-write_all-2-clause-err g c =
    on_err c.from_residual-in_err-write_all-2.result
    (AppendedPart-then _ _ _ (codes "damaged ") (c.args.file.now ++ (codes " " ++ (decimal c.args.line ++ codes "\n")))
    c.in_ok-write_all.ensures.ok
    (AppendedPart-then _ _ _ c.args.file.now (codes " " ++ (decimal c.args.line ++ codes "\n")) c.in_ok-write_name.ensures.ok
    (AppendedPart-front _ _ (codes " ") (decimal c.args.line ++ codes "\n") c.in_err-write_all-2.ensures.err)))

pub returns-clause-err : goal.returns-clause-err
unfolding damaged_text
returns-clause-err g c =
    on_err-map c.write_last_number.result
    (λ part. AppendedPart-then _ _ _ (codes "damaged ") (c.args.file.now ++ (codes " " ++ (decimal c.args.line ++ codes "\n")))
    c.in_ok-write_all.ensures.ok
    (AppendedPart-then _ _ _ c.args.file.now (codes " " ++ (decimal c.args.line ++ codes "\n")) c.in_ok-write_name.ensures.ok
    (AppendedPart-then _ _ _ (codes " ") (decimal c.args.line ++ codes "\n") c.in_ok-write_all-2.ensures.ok part)))
    c.write_last_number.ensures.err
