use Rattle.std.proofs.Common.{◌-◌, arith}
use Rattle.bucket_eval.proofs.Tabling.{next-more}
use Rattle.bucket_eval.proofs.sheets.next_of.Goals as goal

pub next_from-requires-clause-next : goal.next_from-requires-clause-next
next_from-requires-clause-next c = λ from to le is. c.loop-shape.invariant from to (omega (arith, le)) is

pub loop-shape-preserved : goal.loop-shape-preserved
loop-shape-preserved c =
    next-more c.args.shapes.now c.loop-shape.next c.loop-shape.shape (c.loop-shape.shape - 1) c.next_from.result
    (omega arith) c.loop-shape.invariant c.next_from.ensures
