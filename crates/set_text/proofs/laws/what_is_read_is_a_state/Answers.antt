use Rattle.set_text.proofs.round.Desks.{read-is-desk, read-is-spelt}
use Rattle.set_text.proofs.laws.what_is_read_is_a_state.Goals as goal

pub returns : goal.returns
returns c = λ set desk read. (read-is-desk set desk read, read-is-spelt set desk read)
