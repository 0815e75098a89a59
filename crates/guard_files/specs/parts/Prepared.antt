-- What a save needs beside the disk.
use Rattle.std.specs.Prelude.{◌≡◌, ℕ, true, List, map}
use Rattle.desk_ports.specs.declared.file_sets.SetFile.{SetFile}
use Rattle.desk_ports.specs.FileMap.{names_of}
use Rattle.guard_files.specs.OwnName.{backup_name}
use Rattle.guard_files.specs.ListFile.{saved_list, are_listable}

-- the names of the backups and the bytes of the list are those of the set, and its names may stand in a list
pub record IsPrepared (set : List SetFile) (placed : List (List ℕ)) (bytes : List ℕ) : Type 0 where
  pub backups : placed ≡ map backup_name (names_of set)
  pub list : bytes ≡ saved_list (names_of set)
  pub listable : are_listable (names_of set) ≡ true
