use Rattle.std.proofs.Common.{rules}
use Rattle.wire_reading.proofs.Rises.{rises_from_sorted}
use Rattle.wire_messages.proofs.right_fields.privileges_are_right.Goals as goal

pub returns : goal.returns
returns c few = (few, (search rules, rises_from_sorted c.args.names.now (search rules)))
