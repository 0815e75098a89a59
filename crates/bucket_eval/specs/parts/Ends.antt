-- How long walks along policies that point to a bucket are.
use Rattle.std.specs.Prelude.{◌<◌, ℕ, List, length}
use Rattle.bucket_store.specs.Database.{Placed}
use Rattle.bucket_store.specs.Walk.{IsWalk}

-- each walk from the bucket has fewer policies than this
abbrev pub EndsWithin : List Placed → ℕ → List ℕ → Type 0
EndsWithin policies most from = (steps : List Placed) → IsWalk policies from steps → length steps < most
