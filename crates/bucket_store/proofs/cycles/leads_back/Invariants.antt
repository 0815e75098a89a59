use Rattle.std.proofs.Common.{◌≡◌, ◌-◌, length}
use Rattle.bucket_store.specs.parts.Reaching.{IsFlagged}
use Rattle.bucket_store.proofs.Reaching.{Follows}
use Rattle.bucket_store.proofs.cycles.leads_back.Given as goal

abbrev pub invariant-loop-next : goal.invariant-loop-next
invariant-loop-next l =
    (length l.flags ≡ length l.buckets) × IsFlagged l.flags l.places.items
    × Follows l.buckets l.at l.places.items l.next

abbrev pub decreases-loop-next : goal.decreases-loop-next
decreases-loop-next l = length l.buckets - l.next
