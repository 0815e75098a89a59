use Rattle.std.proofs.Common.{◌≡◌, take}
use Rattle.desk_ports.specs.FileMap.{names_of}
use Rattle.guard_files.specs.ListFile.{saved_list}
use Rattle.guard_files.proofs.list_files.list_bytes.Given as goal

abbrev pub invariant-loop-file : goal.invariant-loop-file
invariant-loop-file l = l.bytes ≡ saved_list (names_of (take l.file-index l.files))
