use Rattle.monitor_rule.proofs.Steps.{begins}
use Rattle.monitor_rule.proofs.laws.a_new_reader_keeps_the_rule.Goals as goal

pub returns : goal.returns
returns c = begins
