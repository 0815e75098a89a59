use Rattle.std.proofs.Common.{◌≡◌, ◌+◌, ◌≤◌, length, vec_len, vec_capacity}
use Rattle.std.specs.List.{AllZip}
use Rattle.std.specs.Vec.Iter.{into_iter_items}
use Rattle.serve_runs.specs.parts.Pools.{StandsAt}
use Rattle.serve_runs.proofs.doors.open_doors.Given as goal

abbrev pub invariant-loop-station : goal.invariant-loop-station
invariant-loop-station g l =
    record {
      no_less : g.N.Dial.faults l.fn.net ≤ g.N.Dial.faults l.net;
      closed : g.N.Net.closed l.net ≡ g.N.Net.closed l.fn.net;
      few : vec_len l.pool + length (into_iter_items l.station-iterator) ≤ length l.fn.stations.items;
      capacity : vec_capacity l.fn.pool ≤ vec_capacity l.pool;
      stand : AllZip (StandsAt g.N.Door.Door.given_back g.N.Door.Door.faults g.N.Door.Door.kind) l.yielded l.pool.items;
    }
