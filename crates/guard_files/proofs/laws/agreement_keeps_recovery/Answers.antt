use Rattle.guard_files.proofs.Alike.{recovers_alike}
use Rattle.guard_files.proofs.laws.agreement_keeps_recovery.Goals as goal

pub returns : goal.returns
returns c = record { alike = recovers_alike }
