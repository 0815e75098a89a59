use Rattle.std.proofs.Common.{◌≡◌, [], length}
use Rattle.line_reasons.specs.parts.Runs.{run, stand}
use Rattle.line_reasons.proofs.stands.run.Given as goal

-- what is left leads to where the text does
abbrev pub invariant-loop-part : goal.invariant-loop-part
invariant-loop-part l = run l.blanks (stand l.forms []) l.rest ≡ run l.blanks (stand l.fn.forms []) l.fn.text

abbrev pub decreases-loop-part : goal.decreases-loop-part
decreases-loop-part l = length l.rest
