-- What a stop leaves: the acknowledged state, or one that was under way.
use Rattle.std.specs.Prelude.{◌≡◌, ◌⊎◌, ◌+◌, Bool, List, Option, Some, Ok}
use Rattle.desk_state.specs.DeskState.{DeskState}
use Rattle.desk_state.specs.Next.{next}
use Rattle.desk_state.specs.declared.commands.Command.{Command}
use Rattle.desk_world.specs.World.{World, fresh, history, latest, desk_at}
use Rattle.desk_world.specs.Commits.{stop}
use Rattle.desk_world.specs.Events.{run}
use Rattle.desk_world.specs.declared.events.Event.{Event}

-- the state of the last commit that was answered as done
abbrev pub IsAcknowledged : World → DeskState → Type 0
IsAcknowledged world desk = desk_at world.acknowledged (history world) ≡ Some desk

-- the state that the command that is being stored leads to
abbrev pub IsStored : World → Option Command → DeskState → Type 0
IsStored world command desk = (one : Command) × (command ≡ Some one) × (desk ≡ next (latest world) one)

-- the state of a command that was not answered yet: it is stored and not acknowledged, or it is not known whether the
-- disk holds it, or the stop came while it was being stored
abbrev pub IsUnderWay : World → Option Command → DeskState → Type 0
IsUnderWay world command desk =
    (desk_at (world.acknowledged + 1) (history world) ≡ Some desk)
    ⊎ ((world.candidate ≡ Some desk) ⊎ IsStored world command desk)

-- Whatever events led to a stop, which may come while a command is being stored: the policy state that is found
-- afterwards, with its policies and its Smack rules, is that of the last acknowledged commit or of the one under way.
abbrev pub Recovery : Type 0
Recovery =
    (desk : DeskState) (events : List Event) (command : Option Command) (kept : Bool) (before after : World)
    → run (fresh desk) events ≡ Ok before → stop command kept before ≡ Some after
    → IsAcknowledged before (latest after) ⊎ IsUnderWay before command (latest after)
