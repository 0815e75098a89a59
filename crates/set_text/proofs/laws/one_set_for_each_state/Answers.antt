use Rattle.set_text.proofs.round.OneSet.{read-is-written}
use Rattle.set_text.proofs.laws.one_set_for_each_state.Goals as goal

pub returns : goal.returns
returns c = read-is-written
