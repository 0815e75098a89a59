use Rattle.std.proofs.Common.{take}
use Rattle.std.specs.List.{AllByRecursion}
use Rattle.wire_fields.specs.Right.{IsChange}
use Rattle.wire_messages.proofs.right_fields.changes_are_right.Given as goal

abbrev pub invariant-loop-change : goal.invariant-loop-change
invariant-loop-change l = AllByRecursion IsChange (take l.change-index l.changes)
