use Rattle.std.proofs.Common.{◌≤◌, ◌*◌, ◌-◌}
use Rattle.sample_runs.specs.Lines.{checks}
use Rattle.sample_runs.specs.Sample.{ask_line}
use Rattle.sample_runs.specs.parts.Asking.{asked_of}
use Rattle.sample_runs.proofs.Going.{GoesTo}
use Rattle.sample_runs.proofs.tallies.ask_over.Given as goal

abbrev pub invariant-apps : goal.invariant-apps
invariant-apps l =
    record {
      goes : GoesTo (ask_line l.index) checks (asked_of l.fn.sample l.fn.tally) l.count l.app
          (asked_of l.sample l.tally);
      within : l.app ≤ l.count;
      allowed : l.tally.allowed ≤ 4 * l.app;
      denied : l.tally.denied ≤ 4 * l.app;
    }

abbrev pub decreases-apps : goal.decreases-apps
decreases-apps l = l.count - l.app
