-- What workers of clients hand on, by what that is of a seat and of what is done beside.
use Rattle.std.specs.Prelude.{◌≡◌, List, [], ◌∷◌, length, Option, Some, None}
use Rattle.live_desk.specs.Seat.{SeatState}

-- of each of these seats with the handler of the same place
abbrev pub states_of : {X S : Type 0} → (SeatState → X → S) → List SeatState → List X → List S
states_of state seats [] = []
states_of state [] (handler ∷ handlers) = []
states_of state (seat ∷ seats) (handler ∷ handlers) = state seat handler ∷ states_of state seats handlers

-- of some seats, as many as there are handlers
abbrev pub AreStatesOf : {X S : Type 0} → (SeatState → X → S) → List X → List S → Type 0
AreStatesOf state handlers states =
    (seats : List SeatState) × (length seats ≡ length handlers) × (states ≡ states_of state seats handlers)

-- the same, where there are any
abbrev pub AreLeftOf : {X S V : Type 0} → (SeatState → X → S) → (V → List X) → Option V → Option (List S) → Type 0
AreLeftOf state items None None = Unit {0}
AreLeftOf state items (Some handlers) (Some states) = AreStatesOf state (items handlers) states
AreLeftOf state items None (Some states) = ⊥
AreLeftOf state items (Some handlers) None = ⊥
