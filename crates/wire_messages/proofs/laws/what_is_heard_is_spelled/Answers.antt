use Rattle.wire_reading.proofs.Hearings.{heard_spelled}
use Rattle.wire_messages.proofs.laws.what_is_heard_is_spelled.Goals as goal

pub returns : goal.returns
returns c = heard_spelled
