use Rattle.std.proofs.Common.{subst, sym, Err}
use Rattle.script_replies.specs.NextLine.{ReadsNext}
use Rattle.script_replies.proofs.NextLines.{next_refused, next_found}
use Rattle.script_replies.proofs.next_line.read_next_line.Goals as goal

pub returns-in-Ok-clause-next : goal.returns-in-Ok-clause-next
returns-in-Ok-clause-next g c =
    next_found (g.S.Source.left c.args.source.now)
    (g.S.Source.left c.next.new.source) c.args.lines.now c.next.new.self c.in-Ok.has_line
    c.in-Ok.ensures.next

pub returns-in-Err-clause-next : goal.returns-in-Err-clause-next
returns-in-Err-clause-next g c =
    subst (λ ending. ReadsNext (g.S.Source.left c.args.source.now)
    (g.S.Source.left c.next.new.source) c.args.lines.now c.next.new.self (Err ending))
    (sym c.from.ensures)
    (next_refused (g.S.Source.left c.args.source.now)
    (g.S.Source.left c.next.new.source) c.args.lines.now c.next.new.self c.in-Err.refusal
    c.in-Err.ensures.next)
