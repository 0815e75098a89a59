use Rattle.std.proofs.Common.{◌≡◌, length}
use Rattle.text_lines.specs.Lines.{lines_of}
use Rattle.ctl_run.specs.Behind.{state_behind, made_by}
use Rattle.ctl_run.proofs.running.run_lines.Given as goal

-- what is left makes of the state so far what the script makes of the first one
abbrev pub invariant-loop-line : goal.invariant-loop-line
invariant-loop-line l = state_behind l.reader l.ran.desk (lines_of l.rest) ≡ made_by l.script l.fn.start.desk

abbrev pub decreases-loop-line : goal.decreases-loop-line
decreases-loop-line l = length l.rest
