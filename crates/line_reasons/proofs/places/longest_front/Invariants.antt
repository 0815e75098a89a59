use Rattle.std.proofs.Common.{◌≡◌, ◌≤◌, ◌<◌, ◌+◌, ◌-◌, true, false, length, take}
use Rattle.line_reasons.specs.parts.Grounds.{begins_line}
use Rattle.line_reasons.proofs.places.longest_front.Given as goal

-- a known line can begin with the low front, and not with the one past it, if the line has that
abbrev pub invariant-loop-low : goal.invariant-loop-low
invariant-loop-low l = record {
  ordered : l.low < l.past;
  within : l.past ≤ length l.line + 1;
  begun : begins_line l.ground (take l.low l.line) ≡ true;
  parts : l.past ≤ length l.line → begins_line l.ground (take l.past l.line) ≡ false;
}

abbrev pub decreases-loop-low : goal.decreases-loop-low
decreases-loop-low l = l.past - l.low
