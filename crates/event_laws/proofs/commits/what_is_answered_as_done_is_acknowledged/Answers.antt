use Rattle.event_laws.proofs.Acknowledging.{answered_so}
use Rattle.event_laws.proofs.commits.what_is_answered_as_done_is_acknowledged.Goals as goal

pub returns : goal.returns
returns g c link_of roll now world message hangs replies command commit erased stands =
    answered_so g.H.HangEnd.used link_of roll now world stands message hangs replies command commit erased
