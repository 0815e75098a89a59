-- Policy states that follow one another, commit by commit.
use Rattle.std.specs.Prelude.{◌≡◌, ℕ, ◌==◌, List, [], ◌∷◌, Option, None, find}
use Rattle.desk_state.specs.DeskState.{DeskState}
use Rattle.desk_state.specs.Next.{next}
use Rattle.desk_state.specs.Rules.{fault}
use Rattle.desk_state.specs.declared.commands.Command.{Command}

-- the state comes from the other by an accepted command
pub record Follows (desk after : DeskState) : Type 0 where
  pub command : Command
  pub accepted : fault desk command ≡ None
  pub next : after ≡ next desk command

-- each state comes from the one before it
abbrev pub IsChain : DeskState → List DeskState → Type 0
IsChain desk [] = Unit {0}
IsChain desk (after ∷ later) = Follows desk after × IsChain after later

-- the last of a state and those after it
abbrev pub latest_of : DeskState → List DeskState → DeskState
latest_of desk [] = desk
latest_of desk (next ∷ later) = latest_of next later

-- the state of a commit, where it is among these
abbrev pub desk_at : ℕ → List DeskState → Option DeskState
desk_at commit desks = find (λ (desk : DeskState). desk.commit == commit) desks
