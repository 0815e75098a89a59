use Rattle.monitor_rule.proofs.Steps.{left-told}
use Rattle.monitor_rule.proofs.laws.what_is_left_is_told.Goals as goal

pub returns : goal.returns
returns c = left-told
