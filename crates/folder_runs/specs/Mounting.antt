-- The endings that a refused mount leads to.
use Rattle.std.specs.Prelude.{◌≡◌}
use Rattle.desk_keeper.specs.declared.refusals.KeeperRefusal.{KeeperRefusal}
use Rattle.desk_keeper.specs.declared.refusals.KeeperRefusal.TheVariants.{StoreFault, Damaged as FolderDamaged}
use Rattle.desk_keeper.specs.declared.refusals.KeeperRefusal.TheVariants.{Memory as NoMemory}
use Rattle.run_endings.specs.declared.endings.Ending.{Ending}
use Rattle.run_endings.specs.declared.endings.Ending.TheVariants.{Memory, Disk, Damaged}

abbrev pub mounting_ending : KeeperRefusal → Ending
mounting_ending StoreFault = Disk
mounting_ending (FolderDamaged file line) = Damaged file line
mounting_ending (NoMemory error) = Memory
