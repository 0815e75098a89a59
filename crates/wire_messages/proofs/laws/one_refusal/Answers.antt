use Rattle.wire_messages.proofs.Refusing.{one_refusal, refused_to_its_end}
use Rattle.wire_messages.proofs.laws.one_refusal.Goals as goal

pub returns : goal.returns
returns c = record { same = one_refusal; refused = refused_to_its_end }
