use Rattle.std.proofs.Common.{◌≤◌}
use Rattle.bucket_eval.specs.parts.Buckets.{Offers}
use Rattle.bucket_eval.specs.parts.Slots.{offered_to}
use Rattle.bucket_eval.proofs.InTurn.{least_from}
use Rattle.bucket_eval.proofs.nested.least_in_turn.Given as goal

-- the best offer is the least of the policies from the place on
abbrev pub invariant-loop-place : goal.invariant-loop-place
invariant-loop-place l =
    (l.place-start ≤ l.place)
    × Offers l.asked.buckets.now
    (least_from l.asked.buckets.now (offered_to l.asked l.bucket.name) l.bucket.policies l.place) l.best
