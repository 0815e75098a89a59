use Rattle.admin_door.proofs.Complete.{decided}
use Rattle.admin_door.proofs.laws.a_command_is_decided_where_no_call_fails.Goals as goal

pub returns : goal.returns
returns c told asked command old now replies asks answers = decided told asked command old now replies asks answers
