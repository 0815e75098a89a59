use Rattle.std.proofs.Common.{rules}
use Rattle.monitor_rule.proofs.Steps.{takes-left, left-told}
use Rattle.check_monitor.proofs.rest.Settled.next.Goals as goal

pub pop_as-requires-clause-rule : goal.pop_as-requires-clause-rule
pop_as-requires-clause-rule g c = (takes-left _ _ (search rules) (search rules), left-told _ _ (search rules) (search rules))
