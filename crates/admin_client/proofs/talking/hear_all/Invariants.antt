use Rattle.std.proofs.Common.{◌≡◌, ◌-◌, length}
use Rattle.admin_client.proofs.Taking.{AreTaken}
use Rattle.admin_client.proofs.talking.hear_all.Given as goal

abbrev pub invariant-replies : goal.invariant-replies
invariant-replies g l =
    AreTaken (g.L.Link.traffic l.fn.link) (g.L.Link.traffic l.link) l.fn.machine l.machine l.replies.items
    × ((g.L.Link.marks l.link).ends ≡ (g.L.Link.marks l.fn.link).ends)

abbrev pub decreases-replies : goal.decreases-replies
decreases-replies g l = 1048577 - length l.replies.items
