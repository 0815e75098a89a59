use Rattle.std.proofs.Common.{◌≡◌, ℕ, List, take, is_some}
use Rattle.desk_ports.specs.DiskCalls.{after_calls}
use Rattle.desk_ports.specs.parts.NamesHeld.{has_name}
use Rattle.desk_ports.proofs.disk_replays.held_names.Given as goal

abbrev pub invariant-loop-made : goal.invariant-loop-made
invariant-loop-made l = (name : List ℕ) → has_name l.names name ≡ is_some ((after_calls l.files (take l.made-index l.calls)).current name)
