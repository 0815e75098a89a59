use Rattle.bucket_eval.specs.parts.Slots.{AreSound, Grows, unknowns}
use Rattle.bucket_eval.proofs.settling.+settle.Given as goal

abbrev pub decreases-settle : goal.decreases-settle
decreases-settle l = l.left

-- what is known is right, and no less than at the start
abbrev pub invariant-loop-held : goal.invariant-loop-held
invariant-loop-held l = AreSound l.asked l.slots × Grows l.initial.slots l.slots

abbrev pub decreases-loop-held : goal.decreases-loop-held
decreases-loop-held l = unknowns l.slots
