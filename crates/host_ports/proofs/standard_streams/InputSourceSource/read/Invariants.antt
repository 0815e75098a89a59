use Rattle.std.proofs.Common.{◌≡◌, length}
use Rattle.desk_ports.specs.Content.{Stays}
use Rattle.host_ports.proofs.standard_streams.InputSourceSource.read.Given as goal

abbrev pub invariant-loop : goal.invariant-loop
invariant-loop g l =
    record {
      left : Stays (g.R.Read.remaining l.fn.self.reader) (g.R.Read.remaining l.self.reader);
      count : l.self.faults ≡ l.fn.self.faults;
      faults : l.faults ≡ l.fn.self.faults;
      room : length l.into ≡ length l.fn.into;
    }
