use Rattle.evaluation_laws.proofs.Alike.{answers-alike}
use Rattle.evaluation_laws.proofs.laws.agreement_answers_alike.Goals as goal

pub returns : goal.returns
returns c = answers-alike c.args._question.now c.args._one.now c.args._other.now
