use Rattle.std.proofs.Common.{◌-◌, ◌≤◌}
use Rattle.lane_scan.specs.parts.Tests.{meets}
use Rattle.lane_scan.proofs.Scanning.{IsScanned}
use Rattle.lane_scan.proofs.columns.Columns.push_found.Given as goal

abbrev pub invariant-loop-at : goal.invariant-loop-at
invariant-loop-at l = record {
  within : l.at ≤ l.count;
  scanned : IsScanned (meets l.test) l.self 0 l.at l.initial.out.items l.out.items;
}

abbrev pub decreases-loop-at : goal.decreases-loop-at
decreases-loop-at l = l.count - l.at
