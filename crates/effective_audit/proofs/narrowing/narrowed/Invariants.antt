use Rattle.std.proofs.Common.{◌≡◌, take, map}
use Rattle.effective_audit.specs.parts.Narrowing.{narrow_of}
use Rattle.effective_audit.proofs.narrowing.narrowed.Given as goal

abbrev pub invariant-loop-bucket : goal.invariant-loop-bucket
invariant-loop-bucket l = l.list.items ≡ map (narrow_of l.privileges l.client l.user) (take l.bucket-index l.buckets)
