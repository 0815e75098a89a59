use Rattle.std.proofs.Common.{rules}
use Rattle.monitor_rule.proofs.Steps.{begins}
use Rattle.check_monitor.proofs.All.{all_new}
use Rattle.check_monitor.proofs.opening.open.Goals as goal

pub ruled-requires-clause-rule : goal.ruled-requires-clause-rule
ruled-requires-clause-rule c = begins

pub returns-clause-all : goal.returns-clause-all
returns-clause-all c =
    all_new c.recorders_of.new.reader.queue c.args.room c.args.workers c.in_ok-recorders.recorders.items (search rules)
