use Rattle.std.proofs.Common.{◌≤◌, ◌+◌, length}
use Rattle.access_runs.proofs.RuleTexts.{LinesSoFar}
use Rattle.access_runs.proofs.access_runs.whole_lines.Given as goal

abbrev pub invariant-loop-after : goal.invariant-loop-after
invariant-loop-after l =
    record {
      so_far : LinesSoFar l.text l.rest l.count;
      within : l.count + length l.rest ≤ length l.text;
    }

abbrev pub decreases-loop-after : goal.decreases-loop-after
decreases-loop-after l = length l.rest
