use Rattle.std.proofs.Common.{◌≡◌}
use Rattle.server_hall.proofs.roll_calls.take_notice.Given as goal

-- so far it took notice of nothing
abbrev pub invariant-loop : goal.invariant-loop
invariant-loop g l = l.hangs ≡ l.fn.hangs
