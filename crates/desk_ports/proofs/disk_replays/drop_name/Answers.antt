use Rattle.std.proofs.Common.{false, if◌then◌else◌, ap, ◌∙◌}
use Rattle.std.proofs.lemmas.Map.Text.{is_eq-slice_cmp}
use Rattle.desk_ports.specs.parts.NamesHeld.{has_name}
use Rattle.desk_ports.proofs.disk_replays.drop_name.Goals as goal

pub returns : goal.returns
returns c = λ other.
    c.remove.ensures.updates.0 other
    ∙ ap (λ is. if is then false else has_name c.args.names.now other) (is_eq-slice_cmp c.args.name.now other)
