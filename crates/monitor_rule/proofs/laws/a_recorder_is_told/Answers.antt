use Rattle.monitor_rule.proofs.Steps.{records-told}
use Rattle.monitor_rule.proofs.laws.a_recorder_is_told.Goals as goal

pub returns : goal.returns
returns c = records-told
