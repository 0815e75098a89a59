use Rattle.std.proofs.Common.{◌∷◌, [], ◌-◌, ◌≡◌, refl, arith}
use Rattle.sample_runs.specs.Lines.{install_line, installs}
use Rattle.sample_runs.specs.Sample.{follow_line}
use Rattle.sample_runs.specs.parts.Following.{stand_of}
use Rattle.sample_runs.proofs.Going.{goes-start, goes-turn, stops-turn, goes-all}
use Rattle.sample_runs.proofs.samples.Sample.install_all.Goals as goal

pub apps-init : goal.apps-init
apps-init c = record {
  goes = goes-start follow_line installs (stand_of c.args.self.now) c.args.count;
  within = omega arith;
}

pub apps-preserved : goal.apps-preserved
apps-preserved c = record {
  goes = goes-turn follow_line installs (λ app. install_line app ∷ []) (stand_of c.args.self.now) c.args.count
      (λ app. refl)
      (λ app left. refl) c.apps.app (stand_of c.apps.self)
      (stand_of c.install.new.self) c.apps-test.true c.apps.invariant.goes
      c.in-Ok.ensures;
  within = omega (arith, c.apps-test.true);
}

pub returns-in-Err : goal.returns-in-Err
returns-in-Err c =
    stops-turn follow_line installs (λ app. install_line app ∷ []) (stand_of c.args.self.now) c.args.count (λ app. refl)
    (λ app left. refl) c.apps.app (stand_of c.apps.self) (stand_of c.install.new.self) c.in-Err.ending c.apps-test.true
    c.apps.invariant.goes c.in-Err.ensures

pub returns : goal.returns
returns c =
    let done : c.args.count - c.apps.app ≡ 0 = omega (arith, c.apps-test.false) in
    goes-all follow_line installs (λ app. install_line app ∷ []) (stand_of c.args.self.now) c.args.count (λ app. refl)
    (λ app left. refl) c.apps.app (stand_of c.apps.self) done c.apps.invariant.goes
