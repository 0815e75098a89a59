use Rattle.set_text.proofs.round.Exactly.{exactly}
use Rattle.set_text.proofs.laws.faults_are_of_no_state.Goals as goal

pub returns : goal.returns
returns c = exactly
