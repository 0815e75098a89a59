use Rattle.lane_scan.proofs.RowsOf.{columns-pushed, rows-pushed}
use Rattle.lane_scan.proofs.columns.Columns.push.Goals as goal

pub invariant_of-self-in_default-push : goal.invariant_of-self-in_default-push
invariant_of-self-in_default-push c =
    rw (c.in_ok-push.ensures.items, c.in_default.ensures.items, c.in_default-push.ensures.items)
    (columns-pushed c.self.invariant c.self.view_is c.args.client c.args.user c.args.privilege c.requires)

pub returns-clause-pushed : goal.returns-clause-pushed
returns-clause-pushed c =
    rw (c.in_ok-push.ensures.items, c.in_default.ensures.items, c.in_default-push.ensures.items)
    (rows-pushed c.self.invariant c.self.view_is c.args.client c.args.user c.args.privilege)
