use Rattle.std.proofs.Common.{◌≡◌, ◌≤◌, ◌-◌, length, take}
use Rattle.desk_ports.specs.Content.{Appended}
use Rattle.desk_ports.proofs.streams.write_all.Given as goal

abbrev pub invariant-loop-done : goal.invariant-loop-done
invariant-loop-done g l =
    record {
      within : l.done ≤ length l.bytes;
      taken : Appended (g.K.Sink.taken l.fn.sink) (take l.done l.bytes) (g.K.Sink.taken l.sink);
      count : g.K.Sink.faults l.sink ≡ g.K.Sink.faults l.fn.sink;
    }

abbrev pub decreases-loop-done : goal.decreases-loop-done
decreases-loop-done g l = length l.bytes - l.done
