-- What a stop during the answering of a message may leave in the folder.
use Rattle.std.specs.Prelude.{◌≡◌, ◌⊎◌, true, Bool, List, Option, Some, None, Ok}
use Rattle.desk_ports.specs.FileMap.{FileMap}
use Rattle.desk_ports.specs.Disk.{DiskState, MayLeave}
use Rattle.desk_ports.specs.declared.file_sets.SetFile.{SetFile}
use Rattle.desk_state.specs.DeskState.{DeskState}
use Rattle.desk_state.specs.Next.{next}
use Rattle.desk_state.specs.Rules.{fault}
use Rattle.desk_state.specs.declared.commands.Command.{Command}
use Rattle.desk_keeper.specs.Kept.{standing}
use Rattle.desk_keeper.specs.Keeping.{IsKept}

-- where it is known what the folder keeps, it keeps this state
abbrev pub KeepsKnown : Bool → DeskState → Option (List SetFile) → DiskState → Type 0
KeepsKnown decided desk held state = decided ≡ true → IsKept desk held state

-- The map stands for what a map that a stop at this state may leave stands for: a policy state, a damaged store, or a
-- set that is refused.
abbrev pub StandsAsAt : DiskState → FileMap → Type 0
StandsAsAt before left = (other : FileMap) × MayLeave before other × (standing left ≡ standing other)

-- a stop at this state may leave what stands for this policy state
abbrev pub Allows : DiskState → DeskState → Type 0
Allows before desk = (other : FileMap) × MayLeave before other × (standing other ≡ Ok desk)

-- the map stands for what the command makes of this policy state, which accepts it
abbrev pub IsApplied : DeskState → Command → FileMap → Type 0
IsApplied desk command left = (fault desk command ≡ None) × (standing left ≡ Ok (next desk command))

abbrev pub IsBeforeOrApplied : DeskState → Command → FileMap → Type 0
IsBeforeOrApplied desk command left = (standing left ≡ Ok desk) ⊎ IsApplied desk command left

-- the command was applied, if there is one, to a policy state that a stop at the first disk's state may leave
abbrev pub AppliesOne : Option Command → DiskState → FileMap → Type 0
AppliesOne None before left = ⊥
AppliesOne (Some command) before left = (desk : DeskState) × Allows before desk × IsApplied desk command left

-- Such a map stands for what a stop before the message may leave, or for what its command makes of that.
abbrev pub StandsBy : Option Command → DiskState → FileMap → Type 0
StandsBy found before left = StandsAsAt before left ⊎ AppliesOne found before left
