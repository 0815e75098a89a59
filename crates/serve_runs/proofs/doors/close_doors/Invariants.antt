use Rattle.std.proofs.Common.{◌≡◌, ◌+◌, ◌≤◌, length, map, vec_len, vec_capacity}
use Rattle.std.specs.List.{AllByRecursion}
use Rattle.std.specs.Vec.Iter.{into_iter_items}
use Rattle.serve_runs.specs.Serving.{ClosesDoors}
use Rattle.serve_runs.specs.parts.Pools.{handlers_of, door_of, CountsDoor}
use Rattle.serve_runs.proofs.doors.close_doors.Given as goal

abbrev pub invariant-loop-worker : goal.invariant-loop-worker
invariant-loop-worker g l =
    record {
      no_less : g.N.Dial.faults l.fn.net ≤ g.N.Dial.faults l.net;
      closed : ClosesDoors (g.N.Net.closed l.fn.net) (map door_of l.yielded) (g.N.Net.closed l.net);
      counted : AllByRecursion (λ door. CountsDoor (g.N.Door.Door.faults door) (g.N.Dial.faults l.fn.net) (g.N.Dial.faults l.net))
          (map door_of l.yielded);
      handlers : l.handlers.items ≡ handlers_of l.yielded;
      room : vec_len l.handlers + length (into_iter_items l.worker-iterator) ≤ vec_capacity l.handlers;
    }
