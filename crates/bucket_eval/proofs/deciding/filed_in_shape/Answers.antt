use Rattle.std.proofs.Common.{Some, sym, ap, ◌∙◌}
use Rattle.bucket_eval.proofs.Filing.{fits-filed, fits-other, fits-unfiled, fits-unmarked, sheet-at}
use Rattle.bucket_eval.proofs.deciding.filed_in_shape.Goals as goal

pub returns-in_default : goal.returns-in_default
returns-in_default c = λ bucket there.
    fits-unmarked c.args.asking.now c.args.at bucket c.requires.right there (sheet-at c.args.asking.now c.args.at bucket c.requires.right there).0 (sheet-at c.args.asking.now c.args.at bucket c.requires.right there).1
    c.args.shape c.requires.shape (c.mark_at.ensures ∙ ap Some c.in_default.is)

pub returns-in_default-filed : goal.returns-in_default-filed
returns-in_default-filed c = λ bucket there.
    fits-unfiled c.args.asking.now c.args.at bucket c.requires.right there c.sheet_at.result.now c.sheet_at.ensures
    c.args.shape c.requires.shape c.in-Some.mark (c.mark_at.ensures ∙ ap Some c.in-Some.is)
    (sym c.filed.ensures ∙ c.in_default-filed.is)

pub returns-then-filed-shape : goal.returns-then-filed-shape
returns-then-filed-shape c = λ bucket there.
    fits-filed c.args.asking.now c.args.at bucket c.requires.right there c.sheet_at.result.now c.sheet_at.ensures
    c.args.shape c.requires.shape c.in-Some.mark (c.mark_at.ensures ∙ ap Some c.in-Some.is) c.in-Some-filed.filed
    (sym c.filed.ensures ∙ c.in-Some-filed.is) c.if-filed-shape.true

pub returns : goal.returns
returns c = λ bucket there.
    fits-other c.args.asking.now c.args.at bucket c.requires.right there c.sheet_at.result.now c.sheet_at.ensures
    c.args.shape c.requires.shape c.in-Some.mark (c.mark_at.ensures ∙ ap Some c.in-Some.is) c.in-Some-filed.filed
    (sym c.filed.ensures ∙ c.in-Some-filed.is) c.if-filed-shape.false
