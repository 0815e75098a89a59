-- Messages that a side hears, and that have a spelling.
use Rattle.std.specs.Prelude.{◌≡◌, ◌<◌, ◌≤◌, ◌^◌, length, Some}
use Rattle.wire_fields.specs.declared.messages.Framed.{Framed}
use Rattle.wire_fields.specs.declared.operations.Heard.{Heard}
use Rattle.wire_fields.specs.Limits.{most_length}
use Rattle.wire_fields.specs.Operation.{number_of, operation_of}
use Rattle.wire_fields.specs.Message.{operation}
use Rattle.wire_reading.specs.Frame.{body}
use Rattle.wire_fields.specs.Right.{IsRight}

pub record IsHeard (heard : Heard) (framed : Framed) : Type 0 where
  pub sequence : framed.sequence < 2 ^ 16
  -- no field is wrong
  pub right : IsRight framed.message
  -- the side knows the operation
  pub known : operation_of heard (number_of (operation framed.message)) ≡ Some (operation framed.message)
  pub short : length (body framed) ≤ most_length
