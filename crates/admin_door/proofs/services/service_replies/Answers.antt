use Rattle.server_hall.specs.Service.{told_by}
use Rattle.admin_door.proofs.ServiceTelling.{is_service}
use Rattle.admin_door.proofs.services.service_replies.Goals as goal

pub returns-in-Ok-clause-answered : goal.returns-in-Ok-clause-answered
returns-in-Ok-clause-answered g c =
    is_service (λ replies. replies.items) (told_by c.in-Ok.view) c.view_replies.result c.in-Ok.ensures.rising
    c.view_replies.ensures
