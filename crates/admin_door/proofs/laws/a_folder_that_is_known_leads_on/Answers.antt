use Rattle.admin_door.proofs.Lasting.{leads-on}
use Rattle.admin_door.proofs.laws.a_folder_that_is_known_leads_on.Goals as goal

pub returns : goal.returns
returns c = leads-on
