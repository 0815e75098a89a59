use Rattle.event_laws.proofs.Serving.{reads}
use Rattle.event_laws.proofs.workers.a_check_is_read.Goals as goal

pub returns : goal.returns
returns g c link_of roll side world link ask low found seen one more stands =
    reads g.H.HangEnd.used link_of roll side world stands link found ask low seen one more
