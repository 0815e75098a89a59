use Rattle.std.proofs.Common.{◌≡◌, ◌∙◌, List, ◌∷◌, [], ◌++◌, take, ap, sym, subst, arith}
use Rattle.std.proofs.lemmas.List.{take_more, take_all}
use Rattle.std.specs.List.{AllByRecursion}
use Rattle.serve_runs.specs.declared.pools.Worker.{Worker}
use Rattle.serve_runs.specs.parts.Pools.{SawOnly}
use Rattle.serve_runs.proofs.Pooling.{all_push}
use Rattle.serve_runs.proofs.pools.are_covered.Goals as goal

pub loop-worker-preserved : goal.loop-worker-preserved
loop-worker-preserved g c =
    let W = Worker g.row.J.Denot g.row.D.Denot g.row.X.Denot in
    let saw : SawOnly c.args.publisher.now c.args.events.now c.worker-item.result = c.if-not-is_covered.ensures in
    let before : List W = take c.loop-worker.worker-index c.args.pool.now in
    subst (λ (list : List W). AllByRecursion (SawOnly c.args.publisher.now c.args.events.now) list)
    (sym (take_more c.args.pool.now c.loop-worker.worker-index c.worker-item.result c.loop-worker-test.true
    ∙ ap (λ (one : W). before ++ one ∷ []) (sym c.worker-item.is)))
    (all_push (SawOnly c.args.publisher.now c.args.events.now) before c.worker-item.result c.loop-worker.invariant saw)

pub returns : goal.returns
returns g c =
    let W = Worker g.row.J.Denot g.row.D.Denot g.row.X.Denot in
    subst (λ (list : List W). AllByRecursion (SawOnly c.args.publisher.now c.args.events.now) list)
    (take_all c.loop-worker.worker-index c.args.pool.now (omega arith)) c.loop-worker.invariant
