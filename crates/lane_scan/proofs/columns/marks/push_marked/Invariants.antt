use Rattle.std.proofs.Common.{◌≡◌, ◌≤◌, Bool, List, ◌++◌, length}
use Rattle.std.specs.Simd.Lanes.{mask_l}
use Rattle.lane_scan.specs.Rows.{numbers_from}
use Rattle.lane_scan.specs.parts.Found.{IsLonger}
use Rattle.lane_scan.proofs.Marking.{IsLeft}
use Rattle.lane_scan.proofs.columns.marks.push_marked.Given as goal

abbrev pub invariant-loop-left : goal.invariant-loop-left
invariant-loop-left l = record {
  longer : IsLonger l.initial.out.items l.out.items;
  found : (tests : List Bool) → l.marks ≡ mask_l tests → length tests ≤ 64
      → IsLeft l.left l.first l.out.items (l.initial.out.items ++ numbers_from l.first (λ test. test) tests);
}

abbrev pub decreases-loop-left : goal.decreases-loop-left
decreases-loop-left l = l.left
