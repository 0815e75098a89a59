use Rattle.std.proofs.Common.{◌≡◌, ℕ, List, map, reverse}
use Rattle.std.specs.BTreeMap.{get}
use Rattle.std.specs.Ordering.{nat_cmp}
use Rattle.std.specs.Cmp.Lexicographic.{slice_cmp}
use Rattle.desk_ports.specs.FileMap.{map_of}
use Rattle.desk_ports.proofs.stops.first_files.Given as goal

abbrev pub invariant-loop-file : goal.invariant-loop-file
invariant-loop-file l = (name : List ℕ) → get (slice_cmp nat_cmp) l.held name ≡ map_of (reverse (map (λ file. file.now) l.yielded)) name
