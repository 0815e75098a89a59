use Rattle.bucket_eval.specs.Least.{counts, decision_cmp}
use Rattle.bucket_eval.proofs.Best.{IsBest}
use Rattle.bucket_eval.proofs.least.Given as goal

abbrev pub invariant-loop-place : goal.invariant-loop-place
invariant-loop-place l = IsBest (counts l.question) decision_cmp l.policies l.place l.best
