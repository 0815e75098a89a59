use Rattle.std.proofs.Common.{◌+◌, length, Some, sym, ap, ◌∙◌, subst, arith}
use Rattle.bucket_eval.specs.parts.Buckets.{Offers}
use Rattle.bucket_eval.specs.parts.Slots.{Looks}
use Rattle.bucket_eval.proofs.Kept.{rising-at}
use Rattle.bucket_eval.proofs.Offers.{least_below, least_below-first, least_below-some, least_below-none, least_below-last}
use Rattle.bucket_eval.proofs.nested.least_by_shape.Goals as goal
use Rattle.bucket_eval.proofs.nested.least_by_shape.Goals.{in-Offered, in-Silent}

-- no shape is looked at yet
pub loop-shape-init : goal.loop-shape-init
loop-shape-init c =
    let asked = c.args.asked.now in
    least_below-first asked.buckets.now asked.question.now asked.deep (length asked.buckets.now) c.args.bucket.now.name
    c.args.bucket.now.policies

-- the lesser of the offer in this shape and the best of those below, or the best of those below
pub loop-shape-preserved : goal.loop-shape-preserved
loop-shape-preserved c =
    let asked = c.args.asked.now in
    let buckets = asked.buckets.now in
    let bucket = c.args.bucket.now in
    let shape = c.loop-shape.shape in
    let rising = rising-at buckets c.args.at bucket c.requires.kept.keys_rise c.requires.there in
    let most = length buckets in
    let least = least_below buckets asked.question.now asked.deep most bucket.name bucket.policies in
    elim c.match-offer_in_shape.branch [
      | in-Offered w ↦
          subst (Offers buckets (least (shape + 1))) (sym (w.best-is ∙ ap Some w.least_of.ensures))
          (least_below-some buckets asked.question.now asked.deep most bucket.name bucket.policies shape
          w.in-Offered.offer c.loop-shape.best rising
          (subst (Looks asked c.args.slots.now bucket.name _) w.in-Offered.is c.offer_in_shape.ensures)
          c.loop-shape.invariant)
      | in-Silent w ↦
          subst (Offers buckets (least (shape + 1))) (sym w.best-is)
          (least_below-none buckets asked.question.now asked.deep most bucket.name bucket.policies shape
          c.loop-shape.best rising
          (subst (Looks asked c.args.slots.now bucket.name _) w.in-Silent.is c.offer_in_shape.ensures)
          c.loop-shape.invariant)
    ]

-- all shapes are looked at
pub returns-in-Some : goal.returns-in-Some
returns-in-Some c =
    let asked = c.args.asked.now in
    let bucket = c.args.bucket.now in
    subst (Offers asked.buckets.now _) c.in-Some.is
    (least_below-last asked.buckets.now asked.question.now asked.deep (length asked.buckets.now) bucket.name bucket.policies
    c.loop-shape.shape c.loop-shape.best (omega arith) c.loop-shape.invariant)

pub returns-in-None : goal.returns-in-None
returns-in-None c =
    let asked = c.args.asked.now in
    let bucket = c.args.bucket.now in
    subst (Offers asked.buckets.now _) c.in-None.is
    (least_below-last asked.buckets.now asked.question.now asked.deep (length asked.buckets.now) bucket.name bucket.policies
    c.loop-shape.shape c.loop-shape.best (omega arith) c.loop-shape.invariant)
