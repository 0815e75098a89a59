-- The two copies between which the publisher goes to and fro.
use Rattle.std.specs.Prelude.{◌≡◌, List, Option, Some}
use Rattle.std.specs.Option.{option_map}
use Rattle.desk_state.specs.DeskState.{DeskState}
use Rattle.live_desk.specs.declared.copies.Published.{Published}
use Rattle.live_desk.specs.Shown.{ShownState, desk_of}

-- the state of a copy
abbrev pub latest : {J : Type 0} → Published J → Option DeskState
latest copies = option_map desk_of copies.latest

-- the copy shows the last of these states, as their last
abbrev pub ShowsAll : {J : Type 0} → List DeskState → Published J → Type 0
ShowsAll states copies = (shown : ShownState) × (copies.latest ≡ Some shown) × (shown.states ≡ states)
