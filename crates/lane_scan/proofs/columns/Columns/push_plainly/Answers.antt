use Rattle.std.proofs.Common.{◌<◌, ◌+◌, ℕ, Vec, Global, length, ap, subst, sym, ◌∙◌, arith}
use Rattle.lane_scan.specs.Rows.{Row}
use Rattle.lane_scan.specs.parts.Tests.{meets}
use Rattle.lane_scan.proofs.RowsOf.{columns-long}
use Rattle.lane_scan.proofs.Scanning.{IsScanned, scanned-row, scanned-other, scanned-end}
use Rattle.lane_scan.proofs.columns.Columns.push_plainly.Goals as goal
use Rattle.lane_scan.proofs.columns.Columns.push_plainly.Goals.{then-meets+in_ok-push, else-meets}

pub meets-requires : goal.meets-requires
meets-requires c =
    omega (arith, c.loop-at-test.true, c.len-at-end.ensures, c.self.inside.clients.ok.0, (columns-long c.self.invariant c.self.view_is).0)

pub loop-at-preserved : goal.loop-at-preserved
loop-at-preserved c =
    let row : Row = record { client = 0; user = 0; privilege = 0 } in
    let within : c.loop-at.at < length c.args.self.now =
    omega (arith, c.loop-at-test.true, c.len-at-end.ensures, c.self.inside.clients.ok.0, (columns-long c.self.invariant c.self.view_is).0) in
    elim c.if-meets.branch [
      | then-meets+in_ok-push w ↦
          subst (λ now. IsScanned (meets c.args.test) c.args.self.now c.args.from (c.loop-at.at + 1) c.args.out.now.items now)
          (sym (ap (λ (out : Vec ℕ Global). out.items) w.out-is ∙ w.in_ok-push.ensures.items))
          (scanned-row c.loop-at.invariant row within (sym (c.meets.ensures row) ∙ w.if-meets.true))
      | else-meets w ↦
          subst (λ now. IsScanned (meets c.args.test) c.args.self.now c.args.from (c.loop-at.at + 1) c.args.out.now.items now)
          (sym (ap (λ (out : Vec ℕ Global). out.items) w.out-is))
          (scanned-other c.loop-at.invariant row within (sym (c.meets.ensures row) ∙ w.if-meets.false))
    ]

pub returns-clause-found : goal.returns-clause-found
returns-clause-found c =
    scanned-end c.loop-at.invariant
    (omega (arith, c.loop-at-test.false, c.len-at-end.ensures, c.self.inside.clients.ok.0, (columns-long c.self.invariant c.self.view_is).0))
