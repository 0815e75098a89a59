use Rattle.monitor_rule.proofs.Steps.{takes-last}
use Rattle.monitor_rule.proofs.laws.a_take_after_the_recorders_tells_what_is_left.Goals as goal

pub returns : goal.returns
returns c = takes-last
