use Rattle.wire_reading.proofs.Hearings.{spelled_heard}
use Rattle.wire_messages.proofs.laws.what_is_spelled_is_heard.Goals as goal

pub returns : goal.returns
returns c = spelled_heard
