use Rattle.std.proofs.Common.{◌≡◌, ◌-◌}
use Rattle.admin_client.proofs.Hearing.{heard_at, IsUnder}
use Rattle.admin_client.proofs.talking.hear.Given as goal

abbrev pub invariant-pieces : goal.invariant-pieces
invariant-pieces g l =
    IsUnder (g.L.Link.traffic l.fn.link) (g.L.Link.traffic l.link) l.fn.machine l.machine
    × ((g.L.Link.marks l.link).ends ≡ (g.L.Link.marks l.fn.link).ends)

abbrev pub decreases-pieces : goal.decreases-pieces
decreases-pieces g l = 1048580 - heard_at l.machine.stage
