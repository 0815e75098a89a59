use Rattle.std.proofs.Common.{arith}
use Rattle.wire_fields.proofs.fields.known_bytes.Goals as goal

pub returns-clause-bytes : goal.returns-clause-bytes
returns-clause-bytes c i = omega (arith, c.type_inv.bytes i)
