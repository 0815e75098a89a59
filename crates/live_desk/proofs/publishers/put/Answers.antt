use Rattle.std.proofs.Common.{◌∙◌}
use Rattle.live_desk.proofs.Looks.{shown_last}
use Rattle.live_desk.proofs.publishers.put.Goals as goal

pub returns : goal.returns
returns g c = c.show_all.ensures ∙ shown_last _ c.queue.ensures.0 _ c.args.shown c.queue.ensures.1
