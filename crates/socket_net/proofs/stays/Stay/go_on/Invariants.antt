use Rattle.std.proofs.Common.{◌≡◌, length}
use Rattle.socket_net.proofs.stays.Stay.go_on.Given as goal

abbrev pub invariant-loop : goal.invariant-loop
invariant-loop g l = length l.into ≡ length l.fn.into
