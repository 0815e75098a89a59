use Rattle.client_door.proofs.Complete.{complete}
use Rattle.client_door.proofs.laws.each_frame_of_a_client_is_answered.Goals as goal

pub returns : goal.returns
returns c = complete
