use Rattle.std.proofs.Common.{sym, ◌∙◌}
use Rattle.bucket_eval.proofs.ByShape.{FitsAt-found, FitsAt-other, FitsAt-absent}
use Rattle.bucket_eval.proofs.shapes.place_of_shape.Goals as goal

pub returns-then-fits : goal.returns-then-fits
returns-then-fits c =
    FitsAt-found c.args.question.now c.args.shape c.args.policies.now c.in-Ok.place c.index-policies-place.result
    c.in-Ok.ensures.found c.index-policies-place.is (sym c.fits.ensures ∙ c.if-fits.true)

-- the key has another shape
pub returns-else-fits : goal.returns-else-fits
returns-else-fits c =
    FitsAt-other c.args.question.now c.args.shape c.args.policies.now c.in-Ok.place c.index-policies-place.result
    c.in-Ok.ensures.found c.index-policies-place.is (sym c.fits.ensures ∙ c.if-fits.false)

pub returns-in-Err : goal.returns-in-Err
returns-in-Err c =
    FitsAt-absent c.args.question.now c.args.shape c.args.policies.now c.in-Err.field-0 c.in-Err.ensures.absent
