use Rattle.std.proofs.Common.{◌-◌, ◌≤◌, length}
use Rattle.wire_fields.specs.parts.Visible.{AreVisible}
use Rattle.wire_fields.proofs.name_texts.visible_long.Given as goal

abbrev pub invariant-loop-at : goal.invariant-loop-at
invariant-loop-at l = (l.at ≤ length l.bytes) × AreVisible l.bytes 0 l.at

abbrev pub decreases-loop-at : goal.decreases-loop-at
decreases-loop-at l = length l.bytes - l.at
