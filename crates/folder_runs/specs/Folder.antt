-- What a run leaves of the folder that it mounts.
use Rattle.std.specs.Prelude.{◌≡◌, ◌≤◌, ◌⊎◌, ℕ, List, [], take, Option, Some, Ok, Err}
use Rattle.desk_ports.specs.FileMap.{FileMap}
use Rattle.desk_ports.specs.Disk.{DiskState, MayLeave, WhereTold}
use Rattle.desk_ports.specs.declared.file_sets.SetFile.{SetFile}
use Rattle.desk_state.specs.DeskState.{DeskState}
use Rattle.desk_keeper.specs.Kept.{kept}
use Rattle.desk_keeper.specs.Keeping.{EndsKept, IsBeforeOrAfter}
use Rattle.guard_files.specs.Mounted.{RecoversAsAllowed}
use Rattle.line_script.specs.declared.steps.Step.{Step}
use Rattle.run_endings.specs.Outside.{DiskSeen}
use Rattle.run_endings.specs.Saying.{Said, silence}
use Rattle.script_replies.specs.Script.{state_after}
use Rattle.run_endings.specs.declared.endings.Ending.{Ending}
use Rattle.run_endings.specs.declared.endings.Ending.TheVariants.{Memory, Disk, Net, Damaged, Reply, TooLong}

-- the disk tells a folder that stands for this state
abbrev pub StandsFor : DiskSeen → DeskState → Type 0
StandsFor disk start = (entry : DiskState) × (disk.state ≡ Some entry) × (kept entry.current ≡ Ok start)

-- ---- the mount

-- why a folder was not mounted
abbrev pub RefusesMount : Option DiskState → Ending → Type 0
RefusesMount told Disk = Unit {0}
RefusesMount told Memory = Unit {0}
RefusesMount told (Damaged file line) =
    WhereTold told (λ before. kept before.current ≡ Err (record { file = file; line = line }))
RefusesMount told ending = ⊥

-- The folder was not mounted, and no answer was due. A stop meanwhile left what recovers as something that a stop at
-- entry may leave.
pub record RefusesFolder (said : Said) (ending : Ending) (before after : DiskSeen) : Type 0 where
  pub refused : RefusesMount before.state ending
  pub silent : said ≡ silence
  pub moments : WhereTold before.state
      (λ entry. (map : FileMap) → after.left_since before.moment map → RecoversAsAllowed entry map)

-- ---- from the mount on

-- the map stands for the state after the first few of these steps
abbrev pub StandsWithin : DeskState → List Step → FileMap → Type 0
StandsWithin start steps map = (n : ℕ) × (kept map ≡ Ok (state_after start (take n steps)))

-- What the folder stands for when a run ends: the state after the steps that were answered. Where a call of the disk
-- failed, a stop leaves that state, or the one after the step whose commit failed.
abbrev pub EndsOver : Ending → DeskState → List Step → List Step → Option DiskState → Type 0
EndsOver Disk start answered steps told =
    WhereTold told (λ now. (map : FileMap) → MayLeave now map
    → IsBeforeOrAfter (state_after start answered) (state_after start steps) map)
EndsOver ending start answered steps told =
    (held : Option (List SetFile)) × EndsKept (state_after start answered) held told

-- What a stop may have left at each moment of a run, over a folder that was mounted, with these steps: from some moment
-- on, which the code makes that of the mount, what stands for the state after the first few of them, and before also
-- what a stop at entry may leave.
pub record KeepsFolder (entry : DiskState) (before after : DiskSeen) (ending : Ending) (start : DeskState)
    (answered steps : List Step) : Type 0 where
  pub stood : kept entry.current ≡ Ok start
  -- the moment
  pub mounted_at : ℕ
  pub later : before.moment ≤ mounted_at
  pub within : mounted_at ≤ after.moment
  pub mounting : (map : FileMap) → after.left_since before.moment map → RecoversAsAllowed entry map
      ⊎ StandsWithin start steps map
  pub running : (map : FileMap) → after.left_since mounted_at map → StandsWithin start steps map
  pub ends : EndsOver ending start answered steps after.state
