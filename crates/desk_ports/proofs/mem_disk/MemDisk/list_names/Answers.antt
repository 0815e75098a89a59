use Rattle.std.proofs.Common.{ap, ◌∙◌}
use Rattle.std.specs.List.{list_any}
use Rattle.desk_ports.proofs.Holding.{AreNamesOf-held}
use Rattle.desk_ports.proofs.mem_disk.MemDisk.list_names.Goals as goal

pub returns-clause-names : goal.returns-clause-names
returns-clause-names c =
    AreNamesOf-held _ _ (λ name. ap (list_any _) c.in_ok-names_of_set.ensures.keys ∙ c.in_ok-names.ensures name)
