use Rattle.monitor_rule.proofs.Steps.{pushes}
use Rattle.monitor_rule.proofs.laws.a_push_keeps_the_rule.Goals as goal

pub returns : goal.returns
returns c = pushes
