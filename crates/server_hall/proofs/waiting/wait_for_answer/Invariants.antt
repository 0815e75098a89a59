use Rattle.std.proofs.Common.{◌≡◌}
use Rattle.link_ports.specs.Told.{KeepsTold}
use Rattle.server_hall.proofs.waiting.wait_for_answer.Given as goal

-- so far the link was found up
abbrev pub invariant-loop : goal.invariant-loop
invariant-loop g l = record {
  marks : g.L.Link.marks l.link ≡ g.L.Link.marks l.fn.link;
  faults : g.L.Link.faults l.link ≡ g.L.Link.faults l.fn.link;
  traffic : KeepsTold (g.L.Link.traffic l.fn.link) (g.L.Link.traffic l.link);
}
