use Rattle.std.proofs.Common.{◌≤◌, ◌-◌}
use Rattle.sample_runs.specs.Lines.{installs}
use Rattle.sample_runs.specs.Sample.{follow_line}
use Rattle.sample_runs.specs.parts.Following.{stand_of}
use Rattle.sample_runs.proofs.Going.{GoesTo}
use Rattle.sample_runs.proofs.samples.Sample.install_all.Given as goal

abbrev pub invariant-apps : goal.invariant-apps
invariant-apps l =
    record {
      goes : GoesTo follow_line installs (stand_of l.fn.self) l.count l.app (stand_of l.self);
      within : l.app ≤ l.count;
    }

abbrev pub decreases-apps : goal.decreases-apps
decreases-apps l = l.count - l.app
