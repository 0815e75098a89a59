use Rattle.std.proofs.Common.{arith}
use Rattle.wire_fields.proofs.VisibleLanes.{visible_from_lanes}
use Rattle.wire_fields.proofs.name_texts.visible_16.Goals as goal

pub returns : goal.returns
returns c = visible_from_lanes c.args.bytes.now c.args.at 16 c.requires (omega arith)
