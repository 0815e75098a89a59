use Rattle.std.proofs.Common.{◌≤◌, length}
use Rattle.socket_net.proofs.deadlines.Deadline.send.Given as goal

abbrev pub invariant-loop : goal.invariant-loop
invariant-loop g l = l.done ≤ length l.from
