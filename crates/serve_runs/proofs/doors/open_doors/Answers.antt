use Rattle.std.proofs.Common.{rules, length, ap, sym, subst, ◌++◌, ◌∷◌, [], arith}
use Rattle.std.specs.List.{AllZip}
use Rattle.serve_runs.specs.parts.Pools.{StandsAt}
use Rattle.serve_runs.proofs.Pooling.{zip_push}
use Rattle.serve_runs.proofs.doors.open_doors.Goals as goal

pub returns-in-Err-clause-few : goal.returns-in-Err-clause-few
returns-in-Err-clause-few g c =
    let left = ap length c.in-Some.ensures.steps.0 in
    omega (arith, left, c.loop-station.invariant.few, c.open_one.ensures.few)

pub loop-station-preserved : goal.loop-station-preserved
loop-station-preserved g c =
    let left = ap length c.in-Some.ensures.steps.0 in
    let (worker, items, stands) = c.in_default.ensures.opened in
    record {
      no_less = search rules;
      closed = search rules;
      few = omega (arith, left, c.loop-station.invariant.few, c.open_one.ensures.few);
      capacity = omega (arith, c.loop-station.invariant.capacity, c.open_one.ensures.capacity);
      stand = subst (λ list. AllZip (StandsAt g.N.Door.Door.given_back g.N.Door.Door.faults g.N.Door.Door.kind)
          (c.loop-station.yielded ++ c.in-Some.station ∷ []) list) (sym items)
          (zip_push _ c.loop-station.yielded c.loop-station.pool.items c.in-Some.station worker c.loop-station.invariant.stand stands);
    }

pub returns-clause-few : goal.returns-clause-few
returns-clause-few g c = omega (arith, c.loop-station.invariant.few)
