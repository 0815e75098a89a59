use Rattle.std.proofs.Common.{ap, ◌∙◌}
use Rattle.std.specs.List.{list_any}
use Rattle.desk_ports.proofs.SameNames.{Contains-same}
use Rattle.desk_ports.proofs.name_order.names_in_order.Goals as goal

pub returns-clause-same : goal.returns-clause-same
returns-clause-same c = λ name.
    Contains-same _ _ name (ap (list_any _) c.in_ok-ordered.ensures.keys ∙ c.in_ok-set.ensures.same name)
