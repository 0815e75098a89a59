use Rattle.client_core.proofs.AdminLaw.{law}
use Rattle.client_core.proofs.laws.what_an_administrators_answer_means.Goals as goal

pub returns : goal.returns
returns c = law c.pieces_do_not_matter.ensures
