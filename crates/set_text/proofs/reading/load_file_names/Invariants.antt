use Rattle.std.proofs.Common.{◌≡◌, map, take}
use Rattle.set_text.specs.FileNames.{load_file}
use Rattle.set_text.proofs.reading.load_file_names.Given as goal

-- the names so far
abbrev pub invariant-loop-package : goal.invariant-loop-package
invariant-loop-package l = l.names.items ≡ map load_file (take l.package-index l.packages)
