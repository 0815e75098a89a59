use Rattle.monitor_rule.proofs.Steps.{reads-told}
use Rattle.monitor_rule.proofs.laws.a_reader_is_told.Goals as goal

pub returns : goal.returns
returns c = reads-told
