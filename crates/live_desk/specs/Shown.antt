-- What readers are shown. There is one list of published states, which only grows, and whose commits rise. Each copy
-- that a reader may take bears a front of that list, of which its own state is the last. The publisher's is all of it.
use Rattle.std.specs.Prelude.{List}
use Rattle.desk_state.specs.DeskState.{DeskState}
use Rattle.live_desk.specs.History.{IsLast, Rises}

-- a state that is shown, and the published states up to it
pub record ShownState : Type 0 where
  pub states : List DeskState
  pub desk : DeskState

-- the state is the last of them, and their commits rise
abbrev pub IsShown : List DeskState → DeskState → Type 0
IsShown states desk = IsLast states desk × Rises states

abbrev pub desk_of : ShownState → DeskState
desk_of shown = shown.desk
