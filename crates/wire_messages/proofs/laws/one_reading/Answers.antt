use Rattle.wire_reading.proofs.Hearings.{heard_once}
use Rattle.wire_messages.proofs.laws.one_reading.Goals as goal

pub returns : goal.returns
returns c = heard_once
