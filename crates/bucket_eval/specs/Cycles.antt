-- That evaluation ends: no bucket leads to itself.
use Rattle.std.specs.Prelude.{ℕ, List}
use Rattle.bucket_store.specs.Database.{Database}
use Rattle.bucket_store.specs.Walk.{IsOnCycle}

-- no walk of at least one policy, however long, leads from a bucket to itself
abbrev pub HasNoCycle : Database → Type 0
HasNoCycle database = (name : List ℕ) → IsOnCycle database.policies name → ⊥
