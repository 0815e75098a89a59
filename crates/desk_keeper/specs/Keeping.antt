-- What a keeper promises of its folder: at rest, during a mount, and during a commit.
use Rattle.std.specs.Prelude.{◌≡◌, ◌<◌, ◌⊎◌, ℕ, List, Option, Some, Result, Ok, Err}
use Rattle.desk_ports.specs.declared.file_sets.SetFile.{SetFile}
use Rattle.desk_ports.specs.Faults.{next_count}
use Rattle.desk_ports.specs.FileMap.{FileMap}
use Rattle.desk_ports.specs.Disk.{DiskState, MayLeave, with_all_durable}
use Rattle.desk_ports.specs.Moments.{LeavesOnly}
use Rattle.guard_files.specs.ListFile.{IsCurrent}
use Rattle.guard_files.specs.Settled.{IsSettled}
use Rattle.desk_state.specs.DeskState.{DeskState}
use Rattle.set_text.specs.Fault.{Fault, whole}
use Rattle.set_text.specs.FileNames as name
use Rattle.desk_keeper.specs.Kept.{desk_of_set, kept}
use Rattle.desk_keeper.specs.declared.refusals.KeeperRefusal.{KeeperRefusal}
use Rattle.desk_keeper.specs.declared.refusals.KeeperRefusal.TheVariants.{StoreFault, Damaged, Memory}

-- ---- at rest

-- The folder keeps this state, as this set or as none. A stop now leaves what stands for the state alone, and the
-- store's own names in the folder are those of the set. The file `list`, where it is there, is of version 2, now and
-- after a stop.
pub record IsKept (desk : DeskState) (held : Option (List SetFile)) (state : DiskState) : Type 0 where
  pub stands : desk_of_set held ≡ Ok desk
  pub settled : IsSettled held state
  pub alone : (left : FileMap) → MayLeave state left → kept left ≡ Ok desk
  pub current : IsCurrent state.current
  pub durable : IsCurrent state.durable

-- the disk tells a folder that keeps this state
abbrev pub EndsKept : DeskState → Option (List SetFile) → Option DiskState → Type 0
EndsKept desk held told = (after : DiskState) × (told ≡ Some after) × IsKept desk held after

-- ---- during a mount

-- a fact of the file and line that a refusal names as damage
abbrev pub IfDamaged : KeeperRefusal → (Fault → Type 0) → Type 0
IfDamaged StoreFault P = Unit {0}
IfDamaged (Damaged file line) P = P (record { file = file; line = line })
IfDamaged (Memory error) P = Unit {0}

-- A refusal that names damage changed nothing but that all is durable now: each file of the folder is there as it was.
abbrev pub LeavesDamaged : KeeperRefusal → DiskState → Option DiskState → Type 0
LeavesDamaged refusal before told = IfDamaged refusal (λ fault. told ≡ Some (with_all_durable before))

-- Where the folder stands for no state, a stop at any moment of the call leaves what a stop at entry may leave, whatever
-- the call answers: nothing is written or removed before the set is judged.
abbrev pub SparesDamaged : {D : Type 0} → (D → ℕ) → (D → ℕ → FileMap → Type 0) → D → D → DiskState → Type 0
SparesDamaged moment left_since old new before =
    (fault : Fault) → kept before.current ≡ Err fault → LeavesOnly moment left_since old new (MayLeave before)

-- only a fault of the store raises the disk's count, by one
abbrev pub count_after_refusal : KeeperRefusal → ℕ → ℕ
count_after_refusal StoreFault count = next_count count
count_after_refusal (Damaged file line) count = count
count_after_refusal (Memory error) count = count

abbrev pub count_after_mount : {T : Type 0} → Result T KeeperRefusal → ℕ → ℕ
count_after_mount (Ok value) count = count
count_after_mount (Err refusal) count = count_after_refusal refusal count

-- the folder stands for a state with a lower commit than that of the last decided one
abbrev pub IsOlder : DeskState → FileMap → Fault → Type 0
IsOlder last files fault =
    (desk : DeskState) × (kept files ≡ Ok desk) × (desk.commit < last.commit) × (fault ≡ whole name.stamp)

-- ---- during a commit

-- the map stands for the state before or for the state after
abbrev pub IsBeforeOrAfter : DeskState → DeskState → FileMap → Type 0
IsBeforeOrAfter before next left = (kept left ≡ Ok before) ⊎ (kept left ≡ Ok next)
