-- A row of changes to a disk: each gives a name a file's bytes, or nothing.
use Rattle.std.specs.Prelude.{◌≡◌, ℕ, List, [], ◌∷◌, ◌++◌, map, Option, Some, None}
use Rattle.std.specs.List.{AllByRecursion}
use Rattle.desk_ports.specs.declared.file_sets.SetFile.{SetFile}
use Rattle.desk_ports.specs.FileMap.{FileMap, NameSet, with_name, with_content, names_of}
use Rattle.desk_ports.specs.Disk.{DiskState}
use Rattle.guard_files.specs.OwnName.{guard_name, list_name, primary_name, backup_name}
use Rattle.guard_files.specs.ListFile.{saved_list}

abbrev pub Change : Type 0
Change = List ℕ × Option (List ℕ)

-- the map after the changes, the first of them first
abbrev pub changed : List Change → FileMap → FileMap
changed [] files = files
changed (change ∷ changes) files = changed changes (with_content files change.0 change.1)

-- the names and those that are changed
abbrev pub touching : List Change → NameSet → NameSet
touching [] names = names
touching (change ∷ changes) names = touching changes (with_name names change.0)

-- the state of a disk after the changes
abbrev pub after : List Change → DiskState → DiskState
after changes state = record {
  current = changed changes state.current;
  durable = state.durable;
  touched = touching changes state.touched;
}

-- each file of the set is written where it is placed
abbrev pub writes : (List ℕ → List ℕ) → List SetFile → List Change
writes place set = map (λ file. (place file.name, Some file.bytes)) set

-- each name is removed
abbrev pub removals : List (List ℕ) → List Change
removals names = map (λ name. (name, None)) names

-- the list of the set's names is written where it is placed
abbrev pub list_write : (List ℕ → List ℕ) → List SetFile → Change
list_write place set = (place list_name, Some (saved_list (names_of set)))

-- the whole set is written where it is placed
abbrev pub set_writes : (List ℕ → List ℕ) → List SetFile → List Change
set_writes place set = writes place set ++ list_write place set ∷ []

-- the names are removed, and then the whole set is written in the primaries
abbrev pub primary_changes : List (List ℕ) → List SetFile → List Change
primary_changes gone set = removals gone ++ set_writes primary_name set

-- the guard is written, and removed
abbrev pub guard_up : List Change
guard_up = (guard_name, Some []) ∷ []

abbrev pub guard_down : List Change
guard_down = (guard_name, None) ∷ []

-- the backups of these names are removed, that of the list first
abbrev pub backups_away : List (List ℕ) → List Change
backups_away backups = (backup_name list_name, None) ∷ removals backups

-- the set stands where it is placed: each of its files, and the list of their names
pub record Holds (place : List ℕ → List ℕ) (set : List SetFile) (files : FileMap) : Type 0 where
  pub list : files (place list_name) ≡ Some (saved_list (names_of set))
  pub each : AllByRecursion (λ file. files (place file.name) ≡ Some file.bytes) set
