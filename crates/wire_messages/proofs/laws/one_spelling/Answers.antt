use Rattle.wire_reading.proofs.FrameLaws.{one_spelling}
use Rattle.wire_messages.proofs.laws.one_spelling.Goals as goal

pub returns : goal.returns
returns c = one_spelling
