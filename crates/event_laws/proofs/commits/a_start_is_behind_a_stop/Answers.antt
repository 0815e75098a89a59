use Rattle.event_laws.proofs.Starting.{starts_behind}
use Rattle.event_laws.proofs.commits.a_start_is_behind_a_stop.Goals as goal

pub returns : goal.returns
returns g c link_of roll roll_now side side_now world desk workers stands left started =
    starts_behind g.H.HangEnd.used link_of workers desk roll_now side_now started roll side world stands left
