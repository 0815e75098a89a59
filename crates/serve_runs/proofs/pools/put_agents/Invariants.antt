use Rattle.std.proofs.Common.{◌≡◌, ◌++◌, replicate}
use Rattle.serve_runs.specs.declared.pools.Station.TheVariants.{Agents}
use Rattle.serve_runs.proofs.pools.put_agents.Given as goal

abbrev pub invariant-loop : goal.invariant-loop
invariant-loop g l = l.stations.items ≡ l.fn.stations.items ++ replicate l.counter Agents
