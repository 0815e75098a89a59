use Rattle.std.proofs.Common.{◌≡◌, ◌++◌, length, take}
use Rattle.std.specs.Int.{w32, to_be_bytes}
use Rattle.std.specs.List.{flat_map}
use Rattle.wire_fields.specs.Field.{change}
use Rattle.wire_messages.proofs.list_writers.put_changes.Given as goal

abbrev pub invariant-loop-change : goal.invariant-loop-change
invariant-loop-change l =
    l.out ≡ l.fn.out ++ (to_be_bytes w32 (length l.changes)
    ++ flat_map change.spelled (take l.change-index l.changes))
