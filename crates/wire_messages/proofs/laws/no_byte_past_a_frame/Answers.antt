use Rattle.wire_messages.proofs.Wanting.{hears_one}
use Rattle.wire_messages.proofs.laws.no_byte_past_a_frame.Goals as goal

pub returns : goal.returns
returns c = hears_one
