use Rattle.std.proofs.Common.{◌≡◌, ℕ, List}
use Rattle.std.specs.BTreeMap.{get}
use Rattle.std.specs.Ordering.{nat_cmp}
use Rattle.std.specs.Cmp.Lexicographic.{slice_cmp}
use Rattle.ctl_door.specs.Joining.{files_of}
use Rattle.ctl_door.proofs.files.joined.Given as goal

-- the files of the parts so far
abbrev pub invariant-loop-part : goal.invariant-loop-part
invariant-loop-part l = (name : List ℕ) → get (slice_cmp nat_cmp) l.held name ≡ files_of l.yielded name
