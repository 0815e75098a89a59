use Rattle.std.proofs.Common.{refl, sym, ◌∙◌, arith}
use Rattle.bucket_eval.specs.Least.{counts}
use Rattle.bucket_eval.proofs.Best.{IsBest-down, IsBest-silent, IsBest-after, IsBest-instead, IsBest-only}
use Rattle.bucket_eval.proofs.Decisions.{decision_total, IsBest-whole}
use Rattle.bucket_eval.proofs.least.Goals as goal

-- the policy comes after the best of those behind it
pub loop-place-preserved-in-Some : goal.loop-place-preserved-in-Some
loop-place-preserved-in-Some c =
    IsBest-after (counts c.args.question.now)
    decision_total _ _ _ c.index-policies-place.result c.index-policies-other.result
    (omega arith) c.index-policies-place.is (sym c.counts.ensures ∙ c.if-counts.true)
    c.index-policies-other.is (sym c.is_after.ensures ∙ c.if-is_after.true)
    (IsBest-down c.loop-place-test.true c.in-Some.is c.loop-place.invariant)

-- it doesn't
pub loop-place-preserved-in_default : goal.loop-place-preserved-in_default
loop-place-preserved-in_default c =
    IsBest-instead (counts c.args.question.now)
    decision_total _ _ _ c.index-policies-place.result c.index-policies-other.result
    (omega arith) c.index-policies-place.is (sym c.counts.ensures ∙ c.if-counts.true)
    c.index-policies-other.is (sym c.is_after.ensures ∙ c.if-is_after.false)
    (IsBest-down c.loop-place-test.true c.in-Some.is c.loop-place.invariant)

-- there was none
pub loop-place-preserved-in_default-2 : goal.loop-place-preserved-in_default-2
loop-place-preserved-in_default-2 c =
    IsBest-only (counts c.args.question.now) decision_total _ _ c.index-policies-place.result
    (omega arith) c.index-policies-place.is (sym c.counts.ensures ∙ c.if-counts.true)
    (IsBest-down c.loop-place-test.true c.in_default.is c.loop-place.invariant)

-- the policy has no say
pub loop-place-preserved : goal.loop-place-preserved
loop-place-preserved c =
    IsBest-silent (counts c.args.question.now) decision_total _ _ _ c.index-policies-place.result
    (omega arith) c.index-policies-place.is (sym c.counts.ensures ∙ c.if-counts.false)
    (IsBest-down c.loop-place-test.true refl c.loop-place.invariant)

-- no policy is left
pub returns-clause-least : goal.returns-clause-least
returns-clause-least c = (IsBest-whole c.loop-place-test.false c.loop-place.invariant).0

pub returns-clause-none : goal.returns-clause-none
returns-clause-none c = (IsBest-whole c.loop-place-test.false c.loop-place.invariant).1
