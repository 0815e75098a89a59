use Rattle.std.proofs.Common.{◌≡◌, ◌-◌}
use Rattle.cynara_client.proofs.Hearing.{heard_at, IsUnder}
use Rattle.cynara_client.proofs.talking.hear.Given as goal

abbrev pub invariant-loop-message : goal.invariant-loop-message
invariant-loop-message g l =
    IsUnder (g.L.Link.traffic l.fn.link) (g.L.Link.traffic l.link) l.fn.machine l.machine
    × ((g.L.Link.marks l.link).ends ≡ (g.L.Link.marks l.fn.link).ends)

abbrev pub decreases-loop-message : goal.decreases-loop-message
decreases-loop-message g l = 1048580 - heard_at l.machine.stage
