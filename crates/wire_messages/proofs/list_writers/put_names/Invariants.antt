use Rattle.std.proofs.Common.{◌≡◌, ◌++◌, length, take}
use Rattle.std.specs.Int.{w32, to_be_bytes}
use Rattle.std.specs.List.{flat_map}
use Rattle.wire_fields.specs.Field.{name}
use Rattle.wire_messages.proofs.list_writers.put_names.Given as goal

abbrev pub invariant-loop-name : goal.invariant-loop-name
invariant-loop-name l =
    l.out ≡ l.fn.out ++ (to_be_bytes w32 (length l.names)
    ++ flat_map name.spelled (take l.name-index l.names))
