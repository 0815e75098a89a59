use Rattle.std.proofs.Common.{◌≡◌, ◌-◌, None}
use Rattle.wire_fields.specs.Field.{rising_names}
use Rattle.wire_reading.proofs.Loops.{with_front, last_of}
use Rattle.wire_reading.proofs.list_readers.rising_names.Given as goal

abbrev pub invariant-loop : goal.invariant-loop
invariant-loop l =
    with_front l.names.items (rising_names (last_of l.names.items) (l.count - l.counter) l.fields)
    ≡ rising_names None l.fn.count l.fn.fields
