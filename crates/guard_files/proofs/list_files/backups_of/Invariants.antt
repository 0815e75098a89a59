use Rattle.std.proofs.Common.{◌≡◌, take, map}
use Rattle.desk_ports.specs.FileMap.{names_of}
use Rattle.guard_files.specs.OwnName.{backup_name}
use Rattle.guard_files.proofs.list_files.backups_of.Given as goal

abbrev pub invariant-loop-file : goal.invariant-loop-file
invariant-loop-file l = l.backups.items ≡ map backup_name (names_of (take l.file-index l.files))
