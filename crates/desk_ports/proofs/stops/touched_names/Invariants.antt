use Rattle.std.proofs.Common.{◌≡◌, ℕ, List, take}
use Rattle.desk_ports.specs.DiskCalls.{after_calls}
use Rattle.desk_ports.specs.parts.NamesHeld.{has_name}
use Rattle.desk_ports.specs.declared.file_sets.SetFile.{SetFile}
use Rattle.desk_ports.proofs.stops.touched_names.Given as goal

abbrev pub invariant-loop-made : goal.invariant-loop-made
invariant-loop-made l = (files : List SetFile) (name : List ℕ) → has_name l.names name ≡ (after_calls files (take l.made-index l.calls)).touched name
