use Rattle.event_laws.proofs.Commanding.{four_events}
use Rattle.event_laws.proofs.commits.a_command_is_four_events.Goals as goal

pub returns : goal.returns
returns g c link_of roll roll_now settled now = four_events g.H.HangEnd.used link_of roll roll_now now settled
