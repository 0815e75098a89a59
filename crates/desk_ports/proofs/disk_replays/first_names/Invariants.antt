use Rattle.std.proofs.Common.{◌≡◌, ℕ, List, take, is_some}
use Rattle.desk_ports.specs.FileMap.{map_of}
use Rattle.desk_ports.specs.parts.NamesHeld.{has_name}
use Rattle.desk_ports.proofs.disk_replays.first_names.Given as goal

abbrev pub invariant-loop-file : goal.invariant-loop-file
invariant-loop-file l = (name : List ℕ) → has_name l.names name ≡ is_some (map_of (take l.file-index l.files) name)
