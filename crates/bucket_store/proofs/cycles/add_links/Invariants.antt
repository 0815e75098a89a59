use Rattle.std.proofs.Common.{◌≡◌, length, take}
use Rattle.bucket_store.specs.parts.Reaching.{IsFlagged, with_links}
use Rattle.bucket_store.proofs.cycles.add_links.Given as goal

abbrev pub invariant-loop-policy : goal.invariant-loop-policy
invariant-loop-policy l =
    (length l.flags ≡ length l.buckets) × IsFlagged l.flags l.places.items
    × (l.places.items ≡ with_links l.buckets l.initial.places.items (take l.policy-index l.policies))
