use Rattle.std.proofs.Common.{◌≡◌, take, filter, not}
use Rattle.desk_ports.specs.FileMap.{names_of}
use Rattle.guard_files.specs.Holding.{is_among}
use Rattle.guard_files.proofs.list_files.names_without.Given as goal

abbrev pub invariant-loop-file : goal.invariant-loop-file
invariant-loop-file l = l.names.items ≡ filter (λ name. not (is_among (names_of l.set) name)) (names_of (take l.file-index l.files))
