use Rattle.monitor_rule.proofs.Steps.{joins}
use Rattle.monitor_rule.proofs.laws.a_joined_recorder_keeps_the_rule.Goals as goal

pub returns : goal.returns
returns c = joins
