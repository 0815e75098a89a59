use Rattle.admin_door.proofs.Lasting.{lasts}
use Rattle.admin_door.proofs.laws.an_acknowledged_command_lasts.Goals as goal

pub returns : goal.returns
returns c = lasts
