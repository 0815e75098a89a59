use Rattle.agent_door.proofs.Complete.{complete}
use Rattle.agent_door.proofs.laws.each_frame_of_an_agent_is_heeded.Goals as goal

pub returns : goal.returns
returns c = complete
