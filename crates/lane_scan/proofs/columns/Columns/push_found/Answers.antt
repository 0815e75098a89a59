use Rattle.std.proofs.Common.{◌≤◌, ◌+◌, length, arith}
use Rattle.lane_scan.proofs.RowsOf.{columns-long}
use Rattle.lane_scan.proofs.Scanning.{scanned-chunk}
use Rattle.lane_scan.proofs.columns.Columns.push_found.Goals as goal

pub marks-requires : goal.marks-requires
marks-requires c =
    omega (arith, c.loop-at-test.true, c.len-count.ensures, c.self.inside.clients.ok.0, (columns-long c.self.invariant c.self.view_is).0)

pub loop-at-preserved : goal.loop-at-preserved
loop-at-preserved c =
    let within : c.loop-at.at + 32 ≤ length c.args.self.now =
    omega (arith, c.loop-at-test.true, c.len-count.ensures, c.self.inside.clients.ok.0, (columns-long c.self.invariant c.self.view_is).0) in
    record {
      within = omega (arith, c.loop-at-test.true, c.loop-at.invariant.within);
      scanned = scanned-chunk c.loop-at.invariant.scanned 32 c.marks.result c.push_marked.new.out.items within (omega arith) c.marks.ensures c.in_ok-push_marked.ensures.pushed;
    }

pub push_plainly-requires : goal.push_plainly-requires
push_plainly-requires c =
    omega (arith, c.loop-at.invariant.within, c.len-count.ensures, c.self.inside.clients.ok.0, (columns-long c.self.invariant c.self.view_is).0)
