use Rattle.std.proofs.Common.{◌≡◌}
use Rattle.desk_ports.specs.Content.{Stays}
use Rattle.host_ports.proofs.standard_streams.OutputSinkSink.write.Given as goal

abbrev pub invariant-loop : goal.invariant-loop
invariant-loop g l =
    record {
      taken : Stays (g.W.Write.contents l.fn.self.writer) (g.W.Write.contents l.self.writer);
      count : l.self.faults ≡ l.fn.self.faults;
      faults : l.faults ≡ l.fn.self.faults;
    }
