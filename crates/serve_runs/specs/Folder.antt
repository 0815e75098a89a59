-- What a stop at any moment of a service may have left in its folder.
use Rattle.std.specs.Prelude.{◌≡◌, ◌≤◌, ◌⊎◌, ℕ, List, [], ◌++◌, Some, Ok}
use Rattle.std.specs.List.{AllByRecursion}
use Rattle.desk_ports.specs.FileMap.{FileMap}
use Rattle.desk_ports.specs.Disk.{DiskState, MayLeave}
use Rattle.desk_state.specs.DeskState.{DeskState}
use Rattle.desk_keeper.specs.Kept.{kept}
use Rattle.guard_files.specs.Mounted.{RecoversAsAllowed}
use Rattle.admin_door.specs.Serving.{Exchange}
use Rattle.admin_door.specs.Running.{LeadsTo, StandsSince, StandsBehind, TellsEach}
use Rattle.run_endings.specs.Outside.{DiskSeen}

-- A folder was mounted that told this state at entry, and administrators then sent these frames, each with its answer.
pub record KeepsService (entry : DiskState) (before after : DiskSeen) (start : DeskState)
    (frames : List Exchange) : Type 0 where
  pub stood : kept entry.current ≡ Ok start
  -- a state of the disk at which a stop leaves nothing but what stands for the state, as the one behind the mount is
  pub mounted : DiskState
  pub alone : (map : FileMap) → MayLeave mounted map → kept map ≡ Ok start
  pub mounted_at : ℕ
  pub later : before.moment ≤ mounted_at
  pub within : mounted_at ≤ after.moment
  -- Until some moment, which the code makes that of the mount, a stop leaves what one at entry may have left, and from
  -- then on what the first few of the frames made of the state, or the one that was answered then.
  pub mounting : (map : FileMap) → after.left_since before.moment map
      → RecoversAsAllowed entry map ⊎ StandsSince mounted [] frames map
  pub running : (map : FileMap) → after.left_since mounted_at map → StandsSince mounted [] frames map
  -- From some moment on, the last at the latest, the first of the frames are answered, and no stop leaves what stood
  -- before them.
  pub since : (front back : List Exchange) → frames ≡ front ++ back
      → (at : ℕ) × (mounted_at ≤ at) × (at ≤ after.moment)
      × ((map : FileMap) → after.left_since at map → StandsSince mounted front back map)
  -- what the disk told before each of them: what stands for what those in front of it made of the state
  pub tells : TellsEach mounted frames
  -- behind the run a stop leaves what all of them made of it
  pub now : DiskState
  pub told : after.state ≡ Some now
  pub behind : (map : FileMap) → MayLeave now map → StandsBehind mounted frames map

-- The policy state is what the first few of the frames made of the one at the start: a command that was answered as
-- done was applied, and each other was or was not, where it would have been accepted.
abbrev pub IsMadeBy : DeskState → List Exchange → DeskState → Type 0
IsMadeBy start frames desk =
    (front : List Exchange) × (back : List Exchange) × (frames ≡ front ++ back) × LeadsTo (Ok start) front (Ok desk)

abbrev pub AreMadeBy : DeskState → List Exchange → List DeskState → Type 0
AreMadeBy start frames states = AllByRecursion (λ (desk : DeskState). IsMadeBy start frames desk) states
