use Rattle.std.proofs.Common.{subst, sym, Ok, Err}
use Rattle.std.proofs.lemmas.Result.{err_from_is_err_and}
use Rattle.desk_ports.proofs.Readings.{Took-nothing}
use Rattle.text_lines.specs.LineReader.{HandsOut, HandsOutNext, Ends, EndsReading}
use Rattle.local_runs.specs.parts.Local.{HandsOver}
use Rattle.local_runs.proofs.Turning.{Turns-unhanded, Turns-refused, Turns-ended, Turns-answered, Turns-unanswered}
use Rattle.local_runs.proofs.local_script.LocalScript.answer_next.Goals as goal

pub returns-in_err-hand_over-clause-turn : goal.returns-in_err-hand_over-clause-turn
returns-in_err-hand_over-clause-turn g c =
    let exit = err_from_is_err_and c.from_residual.result c.from_residual.ensures.1 in
    rw (exit.1, exit.2)
    (Turns-unhanded _ _ _ _ c.args.self.now c.hand_over.new.self c.args.keeper.now.desk c.args.lines.now _
    c.in_err-hand_over.field-0.0 c.in_err-hand_over.ensures.handed (Took-nothing (g.S.Source.left c.args.source.now)))

pub returns-in-Err-clause-turn : goal.returns-in-Err-clause-turn
returns-in-Err-clause-turn g c =
    let left = g.S.Source.left c.args.source.now in
    let left_after = g.S.Source.left c.next.new.source in
    let handed = subst
    (λ taken. HandsOver (g.K.Sink.taken c.args.sink.now) taken c.args.self.now c.hand_over.new.self c.args.lines.now
    (Ok tt))
    (sym c.note_past_limit.ensures.taken) c.in_ok-hand_over.ensures.handed in
    rw c.from.ensures
    (Turns-refused _ _ _ _ c.args.self.now c.hand_over.new.self c.args.keeper.now.desk c.args.lines.now c.next.new.self
    handed c.in-Err.refusal
    (subst (λ old. EndsReading left left_after old c.next.new.self) c.hand_over.ensures.lines c.in-Err.ensures.ended)
    (subst (λ old. HandsOutNext left left_after old c.next.new.self (Err c.in-Err.refusal)) c.hand_over.ensures.lines
    c.in-Err.ensures.next))

pub returns-then-not-has_line-clause-turn : goal.returns-then-not-has_line-clause-turn
returns-then-not-has_line-clause-turn g c =
    let left = g.S.Source.left c.args.source.now in
    let left_after = g.S.Source.left c.next.new.source in
    let ends = subst (λ found. HandsOutNext left left_after c.hand_over.new.lines c.next.new.self
    (Ok found)) c.if-not-has_line.true
    c.in-Ok.ensures.next in
    Turns-ended _ _ _ _ c.args.self.now c.hand_over.new.self c.args.keeper.now.desk c.args.lines.now c.next.new.self
    c.in_ok-hand_over.ensures.handed
    (subst (λ old. Ends left left_after old c.next.new.self) c.hand_over.ensures.lines ends)
    (subst (λ old. EndsReading left left_after old c.next.new.self) c.hand_over.ensures.lines c.in-Ok.ensures.ended)

pub returns-in_err-answer_line-clause-turn : goal.returns-in_err-answer_line-clause-turn
returns-in_err-answer_line-clause-turn g c =
    let exit = err_from_is_err_and c.from_residual-in_err-answer_line.result c.from_residual-in_err-answer_line.ensures.1 in
    let left = g.S.Source.left c.args.source.now in
    let left_after = g.S.Source.left c.next.new.source in
    let line = subst (λ found. HandsOutNext left left_after c.hand_over.new.lines c.next.new.self
    (Ok found)) c.if-not-has_line.false
    c.in-Ok.ensures.next in
    rw (exit.1, exit.2)
    (Turns-unanswered _ _ _ _ c.args.self.now c.hand_over.new.self c.args.keeper.now.desk c.args.lines.now c.next.new.self
    c.in_ok-hand_over.ensures.handed _ c.answer_line.new.self _
    (subst (λ old. HandsOut left left_after old c.next.new.self) c.hand_over.ensures.lines line)
    (subst (λ old. EndsReading left left_after old c.next.new.self) c.hand_over.ensures.lines c.in-Ok.ensures.ended)
    c.line.result.now c.number.result c.line.ensures c.number.ensures c.in_err-answer_line.field-0.0 c.in_err-answer_line.ensures.line)

pub returns-clause-turn : goal.returns-clause-turn
returns-clause-turn g c =
    let left = g.S.Source.left c.args.source.now in
    let left_after = g.S.Source.left c.next.new.source in
    let line = subst (λ found. HandsOutNext left left_after c.hand_over.new.lines c.next.new.self
    (Ok found)) c.if-not-has_line.false
    c.in-Ok.ensures.next in
    Turns-answered _ _ _ _ c.args.self.now c.hand_over.new.self c.args.keeper.now.desk c.args.lines.now c.next.new.self
    c.in_ok-hand_over.ensures.handed _ c.answer_line.new.self _
    (subst (λ old. HandsOut left left_after old c.next.new.self) c.hand_over.ensures.lines line)
    (subst (λ old. EndsReading left left_after old c.next.new.self) c.hand_over.ensures.lines c.in-Ok.ensures.ended)
    c.line.result.now c.line.ensures c.in_ok-answer_line.ensures.line
