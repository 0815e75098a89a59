use Rattle.monitor_rule.proofs.Steps.{takes-left}
use Rattle.monitor_rule.proofs.laws.what_is_left_comes_in_order.Goals as goal

pub returns : goal.returns
returns c = takes-left
