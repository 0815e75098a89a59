use Rattle.bucket_eval.proofs.Staying.{NamedTo}
use Rattle.bucket_eval.proofs.stays.are_named_alike.Given as goal

-- the buckets before this one have one name each, and there are as many
abbrev pub invariant-loop-at : goal.invariant-loop-at
invariant-loop-at l = NamedTo l.before l.buckets l.at
