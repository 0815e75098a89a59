use Rattle.monitor_rule.proofs.Steps.{makes}
use Rattle.monitor_rule.proofs.laws.a_new_recorder_keeps_the_rule.Goals as goal

pub returns : goal.returns
returns c = makes
