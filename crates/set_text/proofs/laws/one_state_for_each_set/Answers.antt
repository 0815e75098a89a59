use Rattle.set_text.proofs.round.Exactly.{same-state}
use Rattle.set_text.proofs.laws.one_state_for_each_set.Goals as goal

pub returns : goal.returns
returns c = same-state
