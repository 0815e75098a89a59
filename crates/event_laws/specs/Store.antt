-- What may be found in the folder of a service, and a service that was started.
use Rattle.std.specs.Prelude.{◌≡◌, ◌⊎◌, ℕ, true, [], ◌∷◌, Some}
use Rattle.desk_state.specs.DeskState.{DeskState}
use Rattle.desk_state.specs.Next.{next}
use Rattle.desk_state.specs.declared.commands.Command.{Command}
use Rattle.live_roll.specs.Roll.{RollState, IsNew}
use Rattle.admin_door.specs.Side.{AdminSide}
use Rattle.desk_world.specs.World.{World}
use Rattle.desk_world.specs.Commits.{may_store}

-- behind a commit that failed: the state before it, or its own
abbrev pub IsFoundAs : AdminSide → World → DeskState → Type 0
IsFoundAs side world desk = (desk ≡ side.desk) ⊎ (world.candidate ≡ Some desk)

-- the state of a command that was being committed
abbrev pub IsBegun : AdminSide → World → DeskState → Type 0
IsBegun side world desk = (command : Command) × (may_store command world ≡ true) × (desk ≡ next side.desk command)

-- behind a crash: one of these
abbrev pub IsLeftBehind : AdminSide → World → DeskState → Type 0
IsLeftBehind side world desk = IsFoundAs side world desk ⊎ IsBegun side world desk

-- a service that has just been started with this state: that alone is published, and nobody stands in the registry
pub record IsStarted {H : Type 0} (desk : DeskState) (workers : ℕ) (roll : RollState H)
    (side : AdminSide) : Type 0 where
  pub registry : IsNew desk.commit workers roll
  pub published : side.published ≡ desk ∷ []
  pub kept : side.desk ≡ desk
  pub decided : side.decided ≡ true
