use Rattle.std.proofs.Common.{◌+◌, Some, ap, ◌∙◌, arith}
use Rattle.bucket_eval.proofs.Tabling.{next-behind}
use Rattle.bucket_eval.proofs.sheets.next_from.Goals as goal

pub returns : goal.returns
returns c =
    next-behind c.args.shapes.now c.args.shape c.next_at.result (c.is_there.ensures ∙ ap Some c.if-is_there.false)
    (c.requires.next (c.args.shape + 1) c.next_at.result (omega arith) c.next_at.ensures)
