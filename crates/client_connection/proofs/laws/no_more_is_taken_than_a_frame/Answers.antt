use Rattle.client_connection.proofs.Sizes.{most_taken}
use Rattle.client_connection.proofs.laws.no_more_is_taken_than_a_frame.Goals as goal

pub returns : goal.returns
returns c = most_taken
