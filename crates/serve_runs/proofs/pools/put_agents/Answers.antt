use Rattle.serve_runs.proofs.Pooling.{agents_more}
use Rattle.serve_runs.proofs.pools.put_agents.Goals as goal

pub loop-preserved : goal.loop-preserved
loop-preserved g c =
    agents_more c.args.stations.now.items c.loop.stations.items c.push.new.self.items c.loop.counter c.loop.invariant
    c.in_ok-push.ensures.items
