use Rattle.client_core.proofs.ClientLaw.{law}
use Rattle.client_core.proofs.laws.what_an_answer_means.Goals as goal

pub returns : goal.returns
returns c = law
