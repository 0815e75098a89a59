use Rattle.std.proofs.Common.{arith, ap, ◌∙◌}
use Rattle.lane_scan.specs.parts.Tests.{meets}
use Rattle.lane_scan.proofs.RowsOf.{columns-long, row-is}
use Rattle.lane_scan.proofs.columns.Columns.meets.Goals as goal

pub index-requires : goal.index-requires
index-requires c = omega (arith, c.requires, (columns-long c.self.invariant c.self.view_is).0, c.self.inside.clients.ok.0)

pub index-requires-2 : goal.index-requires-2
index-requires-2 c = omega (arith, c.requires, (columns-long c.self.invariant c.self.view_is).1, c.self.inside.users.ok.0)

pub index-requires-3 : goal.index-requires-3
index-requires-3 c = omega (arith, c.requires, (columns-long c.self.invariant c.self.view_is).2, c.self.inside.privileges.ok.0)

pub returns : goal.returns
returns c row =
    c.meets.ensures
    ∙ ap (meets c.args.test)
    (row-is c.args.at row c.self.invariant c.self.view_is c.requires c.index.ensures c.index-2.ensures c.index-3.ensures)
