use Rattle.event_laws.proofs.Serving.{writes_outcome}
use Rattle.event_laws.proofs.workers.what_comes_of_an_agent_is_written.Goals as goal

pub returns : goal.returns
returns g c link_of roll side world link ask commit kind metadata found one result stands =
    writes_outcome g.H.HangEnd.used link_of roll side world stands link found ask commit kind metadata one result
