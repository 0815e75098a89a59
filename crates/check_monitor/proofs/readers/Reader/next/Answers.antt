use Rattle.std.proofs.Common.{rules}
use Rattle.monitor_rule.proofs.Steps.{takes, reads-told}
use Rattle.check_monitor.proofs.readers.Reader.next.Goals as goal

pub pop_as-requires-clause-rule : goal.pop_as-requires-clause-rule
pop_as-requires-clause-rule g c = (takes _ _ (search rules) (search rules), reads-told _ _ (search rules))
