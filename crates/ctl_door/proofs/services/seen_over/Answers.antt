use Rattle.std.proofs.Common.{rules}
use Rattle.ctl_door.proofs.services.seen_over.Goals as goal

pub returns-in-Ok-read_service : goal.returns-in-Ok-read_service
returns-in-Ok-read_service g c = record {
  between = g.L.Link.traffic c.send.new.self;
  sent = search rules;
  tells = c.in-Ok-read_service.ensures.told;
}
