use Rattle.std.proofs.Common.{rules}
use Rattle.monitor_rule.proofs.Steps.{makes}
use Rattle.check_monitor.proofs.readers.Reader.recorder.Goals as goal

pub another-pass-requires-clause-rule : goal.another-pass-requires-clause-rule
another-pass-requires-clause-rule c = makes _ _ (search rules) (search rules) (search rules)
