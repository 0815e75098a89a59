-- What clauses of other crates see of a keeper.
use Rattle.std.specs.Prelude.{◌≡◌, ◌&&◌, true, List, Option}
use Rattle.desk_ports.specs.declared.file_sets.SetFile.{SetFile}
use Rattle.desk_keeper.specs.declared.keeper.Keeper.{Keeper}

-- the disk of its folder
abbrev pub disk_of : {D : Type 0} → Keeper D → D
disk_of keeper = keeper.vault.disk.now

-- the set of files that its folder holds, or none
abbrev pub held_of : {D : Type 0} → Keeper D → Option (List SetFile)
held_of keeper = keeper.vault.held

-- it is known what the folder keeps
abbrev pub IsDecided : {D : Type 0} → Keeper D → Type 0
IsDecided keeper = (keeper.read && keeper.vault.decided) ≡ true

-- the disk that was lent is the same one still
abbrev pub IsSameDisk : {D : Type 0} → Keeper D → Keeper D → Type 0
IsSameDisk old new = new.vault.disk.ghost_name ≡ old.vault.disk.ghost_name
