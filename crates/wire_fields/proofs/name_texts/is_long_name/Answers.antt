use Rattle.std.proofs.Common.{arith}
use Rattle.wire_fields.proofs.VisibleLanes.{long_name}
use Rattle.wire_fields.proofs.name_texts.is_long_name.Goals as goal

pub returns : goal.returns
returns c = long_name c.are_visible.result c.args.bytes.now (omega arith) (omega arith) c.are_visible.ensures
