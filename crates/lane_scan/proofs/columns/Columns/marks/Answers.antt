use Rattle.std.proofs.Common.{arith}
use Rattle.lane_scan.proofs.RowsOf.{columns-long, columns-masks}
use Rattle.lane_scan.proofs.columns.Columns.marks.Goals as goal

pub place_marks-requires : goal.place_marks-requires
place_marks-requires c = rw c.deref.ensures.value (omega (arith, c.requires, (columns-long c.self.invariant c.self.view_is).0))

pub place_marks-requires-2 : goal.place_marks-requires-2
place_marks-requires-2 c = rw c.deref-2.ensures.value (omega (arith, c.requires, (columns-long c.self.invariant c.self.view_is).1))

pub place_marks-requires-3 : goal.place_marks-requires-3
place_marks-requires-3 c = rw c.deref-3.ensures.value (omega (arith, c.requires, (columns-long c.self.invariant c.self.view_is).2))

pub returns : goal.returns
returns c =
    rw (c.place_marks.ensures, c.place_marks-2.ensures, c.place_marks-3.ensures, c.deref.ensures.value, c.deref-2.ensures.value, c.deref-3.ensures.value)
    (columns-masks c.args.at 32 c.args.test c.self.invariant c.self.view_is)
