use Rattle.bucket_eval.proofs.Staying.{AlikeTo}
use Rattle.bucket_eval.proofs.stays.stayed.Given as goal

-- the policies before this one are the same
abbrev pub invariant-loop-place : goal.invariant-loop-place
invariant-loop-place l = AlikeTo l.before.policies l.bucket.policies l.place
