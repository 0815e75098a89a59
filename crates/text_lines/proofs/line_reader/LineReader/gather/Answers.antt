use Rattle.std.proofs.Common.{subst, sym}
use Rattle.std.proofs.lemmas.Result.{err_from_is_err_and}
use Rattle.text_lines.specs.LineReader.{Keeps}
use Rattle.text_lines.proofs.Gatherings.{Gathers-past, Gathers-failed}
use Rattle.text_lines.proofs.line_reader.LineReader.gather.Goals as goal

pub returns-in_err-within_limits-clause-gathered : goal.returns-in_err-within_limits-clause-gathered
returns-in_err-within_limits-clause-gathered g c =
    let exit = err_from_is_err_and c.from_residual.result c.from_residual.ensures.1 in
    rw (exit.1, exit.2)
    (Gathers-past c.in_err-within_limits.field-0.0
    (subst (λ now. Keeps (g.S.Source.left c.args.source.now) (g.S.Source.left c.loop-self.source) c.args.self.now now)
    (sym c.has_line.ensures.same) c.loop-self.invariant.kept)
    c.in_err-within_limits.ensures)

pub returns-in_err-read_more-clause-gathered : goal.returns-in_err-read_more-clause-gathered
returns-in_err-read_more-clause-gathered g c =
    let exit = err_from_is_err_and c.from_residual-in_err-read_more.result c.from_residual-in_err-read_more.ensures.1 in
    rw (exit.1, exit.2)
    (Gathers-failed c.in_err-read_more.field-0.0
    (subst (λ now. Keeps (g.S.Source.left c.args.source.now) (g.S.Source.left c.loop-self.source) c.args.self.now now)
    (sym c.has_line.ensures.same) c.loop-self.invariant.kept)
    c.in_ok-within_limits.ensures c.in_err-read_more.ensures.kept c.in_err-read_more.ensures.err)
