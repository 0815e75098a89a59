use Rattle.std.proofs.Common.{◌≡◌, ℕ, List, take}
use Rattle.std.specs.BTreeMap.{get}
use Rattle.std.specs.Ordering.{nat_cmp}
use Rattle.std.specs.Cmp.Lexicographic.{slice_cmp}
use Rattle.desk_ports.specs.DiskCalls.{after_calls}
use Rattle.desk_ports.proofs.stops.files_after.Given as goal

abbrev pub invariant-loop-made : goal.invariant-loop-made
invariant-loop-made l = (name : List ℕ) → get (slice_cmp nat_cmp) l.held name ≡ (after_calls l.files (take l.made-index l.calls)).current name
