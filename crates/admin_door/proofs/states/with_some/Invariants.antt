use Rattle.std.proofs.Common.{length}
use Rattle.admin_door.proofs.Parting.{IsTold}
use Rattle.admin_door.proofs.states.with_some.Given as goal

-- the parts so far, and what is left
abbrev pub invariant-parts : goal.invariant-parts
invariant-parts l = IsTold l.name l.bytes l.fn.before.items l.replies.items l.rest

abbrev pub decreases-parts : goal.decreases-parts
decreases-parts l = length l.rest
