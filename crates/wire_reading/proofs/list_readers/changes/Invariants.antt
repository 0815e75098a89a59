use Rattle.std.proofs.Common.{◌≡◌, ◌-◌}
use Rattle.wire_fields.specs.Format.{each}
use Rattle.wire_fields.specs.Field.{change}
use Rattle.wire_reading.proofs.Loops.{with_front}
use Rattle.wire_reading.proofs.list_readers.changes.Given as goal

abbrev pub invariant-loop : goal.invariant-loop
invariant-loop l =
    with_front l.list.items (each change (l.count - l.counter) l.fields) ≡ each change l.fn.count l.fn.fields
