use Rattle.lane_scan.specs.parts.Tests.{meets}
use Rattle.lane_scan.proofs.Scanning.{IsScanned}
use Rattle.lane_scan.proofs.columns.Columns.push_plainly.Given as goal

abbrev pub invariant-loop-at : goal.invariant-loop-at
invariant-loop-at l = IsScanned (meets l.test) l.self l.from l.at l.initial.out.items l.out.items
