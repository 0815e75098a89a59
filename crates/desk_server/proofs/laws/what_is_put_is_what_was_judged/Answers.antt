use Rattle.desk_server.proofs.Adding.{is_judged}
use Rattle.desk_server.proofs.laws.what_is_put_is_what_was_judged.Goals as goal

pub returns : goal.returns
returns c = is_judged
