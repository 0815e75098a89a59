use Rattle.agent_table.proofs.Few.{all-few}
use Rattle.agent_table.proofs.runs.agents_are_few.Goals as goal

pub returns : goal.returns
returns c = all-few
