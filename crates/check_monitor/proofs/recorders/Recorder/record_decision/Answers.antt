use Rattle.std.proofs.Common.{rules}
use Rattle.monitor_rule.proofs.Steps.{pushes, records-told}
use Rattle.check_monitor.proofs.recorders.Recorder.record_decision.Goals as goal

pub push_as-requires-clause-rule : goal.push_as-requires-clause-rule
push_as-requires-clause-rule g c = (pushes _ _ _ _ (search rules) (search rules), records-told _ _ (search rules))
