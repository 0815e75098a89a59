use Rattle.event_laws.proofs.Storing.{done_so}
use Rattle.event_laws.proofs.commits.a_command_that_is_done_was_stored_and_shown.Goals as goal

pub returns : goal.returns
returns c = done_so
