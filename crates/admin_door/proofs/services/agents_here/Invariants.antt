use Rattle.std.proofs.Common.{◌≡◌, map}
use Rattle.wire_fields.specs.declared.messages.Message.TheVariants.{AgentHere}
use Rattle.admin_door.proofs.services.agents_here.Given as goal

-- a reply for each kind so far
abbrev pub invariant-loop-kind : goal.invariant-loop-kind
invariant-loop-kind l = l.replies.items ≡ map AgentHere l.yielded
