use Rattle.event_laws.proofs.Serving.{writes}
use Rattle.event_laws.proofs.workers.a_reply_is_written.Goals as goal

pub returns : goal.returns
returns g c link_of roll side world link ask found one stands =
    writes g.H.HangEnd.used link_of roll side world stands link found ask one
