-- Refusals that name a bucket.
use Rattle.std.specs.Prelude.{◌≡◌, ℕ, List}
use Rattle.desk_state.specs.declared.refusals.Refusal.{Refusal}
use Rattle.desk_state.specs.declared.refusals.Refusal.TheVariants.{Reserved, Memory}

-- the refusal of a reserved name, or want of memory for the name
abbrev pub NamesReserved : List ℕ → Refusal → Type 0
NamesReserved name (Memory error) = Unit {0}
NamesReserved name refusal = refusal ≡ Reserved name
