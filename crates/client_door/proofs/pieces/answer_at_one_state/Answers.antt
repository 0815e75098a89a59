use Rattle.std.proofs.Common.{List, ℕ}
use Rattle.client_door.specs.parts.Talk.{ReadsAt, with_read}
use Rattle.client_door.proofs.InPlace.{goes_behind, reads_none, reads_then, stays_there}
use Rattle.client_door.proofs.pieces.answer_at_one_state.Goals as goal

pub loop-check-init : goal.loop-check-init
loop-check-init g c side seat now_read since before fits =
    (before, fits, reads_none c.args.desk.now (with_read side seat before) c.args.piece.now c.args.outbox.now)

pub loop-check-preserved : goal.loop-check-preserved
loop-check-preserved g c side seat now_read since before fits =
    let first = c.loop-check.invariant side seat now_read since before fits in
    let then = c.in-Ok-true.ensures side seat c.loop-check.rest.now _ now_read c.in-Some.ensures.whole since first.0 first.1 in (
      then.0,
      then.1,
      reads_then c.args.desk.now (with_read side seat before) (with_read side seat first.0) (with_read side seat then.0)
          c.args.piece.now c.loop-check.rest.now _ c.args.outbox.now c.loop-check.outbox c.answer_front.new.outbox first.2
          (goes_behind (λ (rest : List ℕ). ReadsAt c.args.desk.now (with_read side seat first.0) c.loop-check.rest.now c.loop-check.outbox
          (with_read side seat then.0) rest c.answer_front.new.outbox)
          c.loop-check.rest.now c.in-Some.check.size c.in-Ok-true.field-0 c.in-Ok-true.field-0-test then.2),
    )

pub returns-in-Ok-false : goal.returns-in-Ok-false
returns-in-Ok-false g c side seat now_read since before fits =
    let first = c.loop-check.invariant side seat now_read since before fits in
    let then = c.in-Ok-false.ensures side seat c.loop-check.rest.now _ now_read c.in-Some.ensures.whole since first.0 first.1 in (
      then.0,
      then.1,
      reads_then c.args.desk.now (with_read side seat before) (with_read side seat first.0) (with_read side seat then.0)
          c.args.piece.now c.loop-check.rest.now c.loop-check.rest.now c.args.outbox.now c.loop-check.outbox c.answer_front.new.outbox first.2
          (stays_there (λ (rest : List ℕ). ReadsAt c.args.desk.now (with_read side seat first.0) c.loop-check.rest.now c.loop-check.outbox
          (with_read side seat then.0) rest c.answer_front.new.outbox)
          c.loop-check.rest.now _ c.in-Ok-false.field-0 c.in-Ok-false.field-0-test then.2),
    )

pub returns-in-Err : goal.returns-in-Err
returns-in-Err g c side seat now_read since before fits =
    let first = c.loop-check.invariant side seat now_read since before fits in
    let then = c.in-Err.ensures side seat c.loop-check.rest.now _ now_read c.in-Some.ensures.whole since first.0 first.1 in
    (then.0, then.1, λ start met. then.2 start (first.2 start met).0)

pub returns : goal.returns
returns g c side seat now_read since before fits = c.loop-check.invariant side seat now_read since before fits
