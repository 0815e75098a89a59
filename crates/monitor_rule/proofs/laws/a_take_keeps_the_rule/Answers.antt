use Rattle.monitor_rule.proofs.Steps.{takes}
use Rattle.monitor_rule.proofs.laws.a_take_keeps_the_rule.Goals as goal

pub returns : goal.returns
returns c = takes
