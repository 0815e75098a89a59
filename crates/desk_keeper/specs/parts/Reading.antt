-- Why what a store holds was not read.
use Rattle.std.specs.Prelude.{◌≡◌, List, Option, Err}
use Rattle.desk_ports.specs.declared.file_sets.SetFile.{SetFile}
use Rattle.guard_files.specs.declared.refusals.VaultRefusal.{VaultRefusal}
use Rattle.guard_files.specs.declared.refusals.VaultRefusal.TheVariants as vault
use Rattle.set_text.specs.FileNames as name
use Rattle.desk_keeper.specs.Kept.{desk_of_set}
use Rattle.desk_keeper.specs.declared.refusals.KeeperRefusal.{KeeperRefusal}
use Rattle.desk_keeper.specs.declared.refusals.KeeperRefusal.TheVariants.{StoreFault, Damaged, Memory}

abbrev pub RefusesSet : Option (List SetFile) → KeeperRefusal → Type 0
RefusesSet held StoreFault = ⊥
RefusesSet held (Damaged file line) = desk_of_set held ≡ Err (record { file = file; line = line })
RefusesSet held (Memory error) = Unit {0}

-- a damaged store names its file as a whole
abbrev pub refused : VaultRefusal → KeeperRefusal
refused vault.StoreFault = StoreFault
refused (vault.Damaged file) = Damaged file 0
refused (vault.Memory error) = Memory error

-- the refusal of a folder that keeps an older state
abbrev pub NamesStamp : KeeperRefusal → Type 0
NamesStamp StoreFault = ⊥
NamesStamp (Damaged file line) = (file ≡ name.stamp) × (line ≡ 0)
NamesStamp (Memory error) = Unit {0}
