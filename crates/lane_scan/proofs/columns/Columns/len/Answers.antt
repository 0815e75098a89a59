use Rattle.std.proofs.Common.{arith}
use Rattle.lane_scan.proofs.RowsOf.{columns-long}
use Rattle.lane_scan.proofs.columns.Columns.len.Goals as goal

pub returns : goal.returns
returns c =
    let long = columns-long c.self.invariant c.self.view_is in
    record {
      count = omega (arith, c.len.ensures, c.self.inside.clients.ok.0, long.0);
      bound = omega (arith, c.self.invariant.bound, long.0);
    }
