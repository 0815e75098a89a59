use Rattle.std.proofs.Common.{refl, inr}
use Rattle.ctl_door.specs.Answering.{no_check, checked}
use Rattle.ctl_door.proofs.answering.answers.Goals as goal

-- no memory was found for the name
pub returns-in_default : goal.returns-in_default
returns-in_default g c = no_check _ refl (inr (_, refl, refl))

-- the check was not answered
pub returns-in-Err : goal.returns-in-Err
returns-in-Err g c = no_check c.in-Err.refusal refl c.in-Err.ensures

pub returns-in-Ok-answers_check : goal.returns-in-Ok-answers_check
returns-in-Ok-answers_check g c =
    checked c.answers_check.new.dial c.in-Ok-answers_check.ensures c.answers_listing.ensures
