-- The roll's log: what happened under its lock, the first first.
use Rattle.std.specs.Prelude.{◌≡◌, ◌<◌, ◌≤◌, ℕ, max, List, [], ◌∷◌, ◌++◌, Some, slice_get}
use Rattle.live_roll.specs.declared.events.Event.{Event}
use Rattle.live_roll.specs.declared.events.Event.TheVariants.{Entered, Hung}

-- the greatest commit for which connections were hung up, or this one where that is greater
abbrev pub hung_to : ℕ → List Event → ℕ
hung_to low [] = low
hung_to low (Entered at ∷ more) = hung_to low more
hung_to low (Hung to ∷ more) = hung_to (max low to) more

-- no connection entered below this commit, or below one for which connections had been hung up before
abbrev pub EnterAbove : ℕ → List Event → Type 0
EnterAbove low [] = Unit {0}
EnterAbove low (Entered at ∷ more) = (low ≤ at) × EnterAbove low more
EnterAbove low (Hung to ∷ more) = EnterAbove (max low to) more

-- who entered behind a hang-up entered at its commit or above
abbrev pub NoneBelow : List Event → Type 0
NoneBelow events = (i j to at : ℕ)
    → i < j → slice_get events i ≡ Some (Hung to) → slice_get events j ≡ Some (Entered at) → to ≤ at

-- no hang-up in it is for a commit above this one
abbrev pub NoneAbove : List Event → ℕ → Type 0
NoneAbove events at = (i to : ℕ) → slice_get events i ≡ Some (Hung to) → to ≤ at

-- this happened last
abbrev pub EndsWith : List Event → Event → Type 0
EndsWith events event = (before : List Event) × (events ≡ before ++ event ∷ [])

-- those were hung up that had entered below this commit
abbrev pub HasHung : List Event → ℕ → Type 0
HasHung events commit = (i : ℕ) × (slice_get events i ≡ Some (Hung commit))
