use Rattle.std.proofs.Common.{ℕ, ◌<◌}
use Rattle.std.specs.List.{flat_map}
use Rattle.bucket_store.specs.Database.{placed_of}
use Rattle.bucket_store.specs.Walk.{IsOnCycle}
use Rattle.bucket_store.specs.parts.Ending.{AreEnding, name_at}
use Rattle.bucket_store.proofs.cycles.least_left.Given as goal

abbrev pub invariant-loop-at : goal.invariant-loop-at
invariant-loop-at l =
    AreEnding l.buckets l.ended
    × ((other : ℕ) → other < l.at → IsOnCycle (flat_map placed_of l.buckets) (name_at l.buckets other) → ⊥)
