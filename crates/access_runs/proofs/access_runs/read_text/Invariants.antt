use Rattle.std.proofs.Common.{◌≡◌, ◌≤◌, ◌+◌, ◌-◌, length}
use Rattle.desk_ports.specs.Content.{Took}
use Rattle.access_runs.specs.Limits.{most_rules_bytes}
use Rattle.access_runs.proofs.access_runs.read_text.Given as goal

abbrev pub invariant-pieces : goal.invariant-pieces
invariant-pieces g l =
    record {
      took : Took (g.S.Source.left l.fn.source) l.text (g.S.Source.left l.source);
      within : length l.text ≤ most_rules_bytes + 1;
      window : length l.window ≡ 262144;
      count : g.S.Source.faults l.source ≡ g.S.Source.faults l.fn.source;
    }

abbrev pub decreases-pieces : goal.decreases-pieces
decreases-pieces g l = most_rules_bytes + 1 - length l.text
