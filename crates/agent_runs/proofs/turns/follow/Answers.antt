use Rattle.std.proofs.Common.{refl}
use Rattle.agent_runs.specs.parts.Turns.{Follows}
use Rattle.agent_runs.proofs.turns.follow.Goals as goal

pub returns-in-Ok : goal.returns-in-Ok
returns-in-Ok g c = λ sequence put. Follows.written c.in-Ok.ensures (c.answer.ensures sequence put)

pub returns-in-Err : goal.returns-in-Err
returns-in-Err g c = λ sequence put. Follows.unwritten c.in-Err.ensures refl
