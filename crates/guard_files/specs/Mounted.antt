-- How a store is mounted: which refusal comes when, and what a stop meanwhile may leave.
use Rattle.std.specs.Prelude.{◌≡◌, ℕ, Bool, true, false, not, ◌&&◌, if◌then◌else◌, List, [], Option, Some, None, is_some, Result, Ok, Err}
use Rattle.desk_ports.specs.Faults.{next_count}
use Rattle.desk_ports.specs.FileMap.{FileMap, names_of, AreNamesOf}
use Rattle.desk_ports.specs.Disk.{DiskState, MayLeave, with_all_durable}
use Rattle.desk_ports.specs.declared.port_faults.PortFault.{PortFault}
use Rattle.desk_ports.specs.declared.port_faults.PortFault.TheVariants.{Failed, Memory as NoMemory}
use Rattle.desk_ports.specs.declared.file_sets.SetFile.{SetFile}
use Rattle.guard_files.specs.declared.refusals.VaultRefusal.{VaultRefusal}
use Rattle.guard_files.specs.declared.refusals.VaultRefusal.TheVariants.{StoreFault, Damaged, Memory}
use Rattle.guard_files.specs.declared.survey.Survey.{Survey}
use Rattle.guard_files.specs.OwnName.{guard_name, list_name, primary_name, backup_name, is_backup, is_own}
use Rattle.std.specs.Str.{bytes_eq}
use Rattle.guard_files.specs.Holding.{is_among}
use Rattle.guard_files.specs.Recovery.{Recovered, backup_set, primary_set, recover}
use Rattle.guard_files.specs.ListFile.{is_old_list}
use Rattle.guard_files.specs.Settled.{KeepsOthers, IsSettled, IsLeftCurrent}

-- the refusal that a fault of the disk leads to
abbrev pub refused : PortFault → VaultRefusal
refused Failed = StoreFault
refused (NoMemory error) = Memory error

-- a fact of the file that a refusal names as damage
abbrev pub IfDamaged : VaultRefusal → (List ℕ → Type 0) → Type 0
IfDamaged StoreFault P = Unit {0}
IfDamaged (Damaged file) P = P file
IfDamaged (Memory error) P = Unit {0}

-- only a fault of the store raises the disk's count, by one
abbrev pub count_after_refusal : VaultRefusal → ℕ → ℕ
count_after_refusal StoreFault count = next_count count
count_after_refusal (Damaged file) count = count
count_after_refusal (Memory error) count = count

abbrev pub count_after_mount : {T : Type 0} → Result T VaultRefusal → ℕ → ℕ
count_after_mount (Ok value) count = count
count_after_mount (Err refusal) count = count_after_refusal refusal count

-- where the set's files are read, and the set that is read there
abbrev pub placed : Bool → List ℕ → List ℕ
placed guarded name = if guarded then backup_name name else primary_name name

abbrev pub set_read : Bool → FileMap → Recovered
set_read guarded files = if guarded then backup_set files else primary_set files

-- the map recovers as one does that a stop at this state may leave, and the files of others are as they were
abbrev pub RecoversAsAllowed : DiskState → FileMap → Type 0
RecoversAsAllowed before left =
    (other : FileMap) × MayLeave before other × (recover left ≡ recover other) × KeepsOthers before left

-- each file that is not the store's own is in one map as in the other
abbrev pub AreOthersOf : FileMap → FileMap → Type 0
AreOthersOf files left = (name : List ℕ) → is_own name ≡ false → left name ≡ files name

-- the map recovers to this set, or none, and the files of others are those of the folder
pub record StandsFor (files : FileMap) (held : Option (List SetFile)) (left : FileMap) : Type 0 where
  pub recovers : recover left ≡ Ok held
  pub others : AreOthersOf files left

-- the disk tells a store at rest that holds this set, or none, and whose list is of version 2
abbrev pub EndsAtRest : Option (List SetFile) → Option DiskState → Type 0
EndsAtRest held told = (after : DiskState) × (told ≡ Some after) × IsLeftCurrent held after

-- The disk tells a store at rest that holds this set, or none, whatever the version of its list. The files of others
-- are those of the folder, and durable.
pub record IsAtRest (files : FileMap) (held : Option (List SetFile)) (after : DiskState) : Type 0 where
  pub settled : IsSettled held after
  pub untouched : (name : List ℕ) → is_own name ≡ false → after.touched name ≡ false
  pub others : AreOthersOf files after.durable

abbrev pub Rests : FileMap → Option (List SetFile) → Option DiskState → Type 0
Rests files held told = (after : DiskState) × (told ≡ Some after) × IsAtRest files held after

-- the names of the files of a set, none where there is none
abbrev pub set_names : Option (List SetFile) → List (List ℕ)
set_names None = []
set_names (Some files) = names_of files

-- Where the guard stood, the own names that are no backups, not the guard, not the list and not of the set go before
-- the primaries are written.
abbrev pub goes : Option (List SetFile) → List ℕ → Bool
goes held name =
    (not (is_backup name) && not (bytes_eq name guard_name))
    && ((not (bytes_eq name list_name) && not (is_among (set_names held) name)) && is_own name)

-- What is left over at the end of a mount: own names that are not the list and not of the set. Where the guard stood
-- only backups are left.
abbrev pub is_left_over : Bool → Option (List SetFile) → List ℕ → Bool
is_left_over true held name = is_backup name && is_own name
is_left_over false held name =
    not (bytes_eq name guard_name)
    && ((not (bytes_eq name list_name) && not (is_among (set_names held) name)) && is_own name)

-- What was read of a folder: its names, whether the guard is there, whether the list that was read is of version 1, and
-- the set that the folder holds.
pub record IsFound (files : FileMap) (found : Survey) : Type 0 where
  pub listed : AreNamesOf files found.listing.items
  pub guard : found.guarded ≡ is_some (files guard_name)
  pub old : found.is_old ≡ is_old_list (files (placed found.guarded list_name))
  pub read : set_read found.guarded files ≡ Ok found.held

-- Where the disk tells that all is durable, and this was found in the folder, the fact holds of its state.
abbrev pub WhereFound : Option DiskState → Survey → (DiskState → Type 0) → Type 0
WhereFound told found P = (base : DiskState) → told ≡ Some (with_all_durable base) → IsFound base.current found → P base
