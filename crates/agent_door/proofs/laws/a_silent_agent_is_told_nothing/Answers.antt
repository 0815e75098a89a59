use Rattle.agent_door.proofs.Silent.{silent}
use Rattle.agent_door.proofs.laws.a_silent_agent_is_told_nothing.Goals as goal

pub returns : goal.returns
returns c = silent
