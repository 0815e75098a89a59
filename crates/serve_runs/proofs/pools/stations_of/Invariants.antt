use Rattle.std.proofs.Common.{◌≡◌, ◌≤◌, ◌++◌, length}
use Rattle.std.specs.Vec.Iter.{into_iter_items}
use Rattle.serve_runs.specs.parts.Pools.{manned}
use Rattle.serve_runs.proofs.pools.stations_of.Given as goal

-- a seat is there for each handler that is left
abbrev pub invariant-loop-handler : goal.invariant-loop-handler
invariant-loop-handler g l =
    record {
      stations : manned l.fn.seats.items l.fn.handlers.items
          ≡ l.stations.items ++ manned (into_iter_items l.seats) (into_iter_items l.handler-iterator);
      seats : length (into_iter_items l.handler-iterator) ≤ length (into_iter_items l.seats);
    }
