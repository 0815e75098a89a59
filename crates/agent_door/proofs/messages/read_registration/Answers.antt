use Rattle.agent_door.proofs.Misplaced.{no_registration}
use Rattle.agent_door.proofs.messages.read_registration.Goals as goal

pub returns-in-None : goal.returns-in-None
returns-in-None c = (no_registration c.args.framed.message c.requires.known c.in-None.ensures, c.out_of_place.ensures)
