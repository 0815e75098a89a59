use Rattle.std.proofs.Common.{◌≤◌, length, take}
use Rattle.desk_ports.specs.Content.{Appended}
use Rattle.socket_net.proofs.stays.Stay.send_since.Given as goal

abbrev pub invariant-loop : goal.invariant-loop
invariant-loop g l = record {
  within : l.done ≤ length l.from;
  sent : Appended (g.W.Write.contents l.fn.stream) (take l.done l.from) (g.W.Write.contents l.stream);
}
