use Rattle.std.proofs.Common.{rules, refl}
use Rattle.monitor_journal.proofs.Writes.{journals_once}
use Rattle.watch_runs.proofs.journals.JournalTask.turn.Goals as goal

pub returns : goal.returns
returns g c = (search rules, journals_once _ _ _ _ _ _ c.hand_on-self.ensures)
