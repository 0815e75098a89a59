use Rattle.client_core.proofs.AgentLaw.{law}
use Rattle.client_core.proofs.laws.what_an_agent_sends.Goals as goal

pub returns : goal.returns
returns c = law
