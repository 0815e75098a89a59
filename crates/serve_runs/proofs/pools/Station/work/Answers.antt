use Rattle.serve_runs.proofs.Pooling.{unstarted}
use Rattle.serve_runs.proofs.pools.Station.work.Goals as goal

pub returns-then-not-begin-clause-works : goal.returns-then-not-begin-clause-works
returns-then-not-begin-clause-works g c =
    unstarted g.X.ClientHandler.state (g.X.ClientHandler.visits g.D.Link.Link.traffic g.D.Link.Link.marks g.D.Link.Link.faults)
    g.D.Link.Link.traffic g.D.Link.Link.marks g.D.Link.Link.faults g.D.Door.given_back g.D.Door.faults
    c.args.self.now c.args.door.now c.args.news.now
