use Rattle.set_text.proofs.round.BackAgain.{written-is-read}
use Rattle.set_text.proofs.laws.files_read_back.Goals as goal

pub returns : goal.returns
returns c = written-is-read
