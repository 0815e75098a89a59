use Rattle.std.proofs.Common.{◌-◌, ◌≡◌, refl, arith}
use Rattle.sample_runs.specs.Lines.{checks_of, checks}
use Rattle.sample_runs.specs.Sample.{ask_line}
use Rattle.sample_runs.specs.parts.Asking.{asked_of}
use Rattle.sample_runs.proofs.Going.{goes-start, goes-turn, stops-turn, goes-all}
use Rattle.sample_runs.proofs.tallies.ask_over.Goals as goal

pub apps-init : goal.apps-init
apps-init c = record {
  goes = goes-start (ask_line c.args.index.now) checks (asked_of c.args.sample.now c.args.tally.now) c.args.count;
  within = omega arith;
  allowed = omega (arith, c.requires.allowed);
  denied = omega (arith, c.requires.denied);
}

pub apps-preserved : goal.apps-preserved
apps-preserved c = record {
  goes = goes-turn (ask_line c.args.index.now) checks checks_of
      (asked_of c.args.sample.now c.args.tally.now) c.args.count
      (λ app. refl) (λ app left. refl) c.apps.app (asked_of c.apps.sample c.apps.tally)
      (asked_of c.ask_app.new.sample c.ask_app.new.tally) c.apps-test.true c.apps.invariant.goes c.in-Ok.ensures.asks;
  within = omega (arith, c.apps-test.true);
  allowed = omega (arith, c.ask_app.ensures.allowed, c.apps.invariant.allowed);
  denied = omega (arith, c.ask_app.ensures.denied, c.apps.invariant.denied);
}

pub returns-in-Err : goal.returns-in-Err
returns-in-Err c =
    stops-turn (ask_line c.args.index.now) checks checks_of (asked_of c.args.sample.now c.args.tally.now) c.args.count
    (λ app. refl) (λ app left. refl) c.apps.app (asked_of c.apps.sample c.apps.tally)
    (asked_of c.ask_app.new.sample c.ask_app.new.tally) c.in-Err.ending c.apps-test.true c.apps.invariant.goes
    c.in-Err.ensures.asks

pub returns : goal.returns
returns c =
    let done : c.args.count - c.apps.app ≡ 0 = omega (arith, c.apps-test.false) in
    goes-all (ask_line c.args.index.now) checks checks_of (asked_of c.args.sample.now c.args.tally.now) c.args.count
    (λ app. refl) (λ app left. refl) c.apps.app (asked_of c.apps.sample c.apps.tally) done c.apps.invariant.goes
