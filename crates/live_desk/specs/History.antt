-- Lists of states that were published, the first one first.
use Rattle.std.specs.Prelude.{◌≡◌, ◌<◌, ℕ, List, [], ◌∷◌, ◌++◌}
use Rattle.desk_state.specs.DeskState.{DeskState}

-- the second list goes on where the first ends
abbrev pub GoesOn : List DeskState → List DeskState → Type 0
GoesOn seen later = (more : List DeskState) × (later ≡ seen ++ more)

-- the list ends with this state
abbrev pub IsLast : List DeskState → DeskState → Type 0
IsLast seen desk = (front : List DeskState) × (seen ≡ front ++ desk ∷ [])

-- each commit is above the one before, and the first is above this one
abbrev pub RisesFrom : ℕ → List DeskState → Type 0
RisesFrom low [] = Unit {0}
RisesFrom low (desk ∷ more) = (low < desk.commit) × RisesFrom desk.commit more

-- each commit is above the one before
abbrev pub Rises : List DeskState → Type 0
Rises [] = Unit {0}
Rises (desk ∷ more) = RisesFrom desk.commit more

-- the commit of the last state, or this one where there is none
abbrev pub last_commit : ℕ → List DeskState → ℕ
last_commit low [] = low
last_commit low (desk ∷ more) = last_commit desk.commit more
