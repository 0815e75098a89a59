use Rattle.std.proofs.Common.{◌≡◌, ◌∙◌, ap, map}
use Rattle.serve_runs.specs.Pool.{posts_with}
use Rattle.serve_runs.specs.Handlers.{states_of}
use Rattle.serve_runs.specs.parts.Pools.{post_at}
use Rattle.serve_runs.proofs.Pooling.{posts_given}
use Rattle.serve_runs.proofs.serving.run_workers.Goals as goal

pub returns-clause-served : goal.returns-clause-served
returns-clause-served g c =
    let state = g.X.ClientHandler.state in
    let posts : map (post_at state) c.in-Ok.stations.items ≡ posts_with (states_of state c.args.seats.items c.args.handlers.items) =
    ap (λ list. map (post_at state) list) c.in-Ok.ensures
    ∙ posts_given g.row.J.Denot g.row.X.Denot state c.args.seats.items c.args.handlers.items in
    rw posts at c.open_and_serve.ensures.served
