use Rattle.std.proofs.Common.{◌≡◌, take}
use Rattle.desk_ports.proofs.file_sets.FileSet.copy.Given as goal

abbrev pub invariant-loop-file : goal.invariant-loop-file
invariant-loop-file l = l.files.items ≡ take l.file-index l.file-items
