use Rattle.std.proofs.Common.{take}
use Rattle.std.specs.List.{AllByRecursion}
use Rattle.wire_fields.specs.Right.{IsName}
use Rattle.wire_messages.proofs.right_fields.names_are_right.Given as goal

abbrev pub invariant-loop-name : goal.invariant-loop-name
invariant-loop-name l = AllByRecursion IsName (take l.name-index l.names)
