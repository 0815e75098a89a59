use Rattle.std.proofs.Common.{take}
use Rattle.std.specs.List.{AllByRecursion}
use Rattle.serve_runs.specs.parts.Pools.{SawOnly}
use Rattle.serve_runs.proofs.pools.are_covered.Given as goal

-- none of those so far
abbrev pub invariant-loop-worker : goal.invariant-loop-worker
invariant-loop-worker g l = AllByRecursion (SawOnly l.fn.publisher l.fn.events) (take l.worker-index l.pool)
