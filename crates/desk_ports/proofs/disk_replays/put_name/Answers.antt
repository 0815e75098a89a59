use Rattle.std.proofs.Common.{true, if◌then◌else◌, ap, ◌∙◌}
use Rattle.std.specs.Str.{bytes_eq}
use Rattle.std.proofs.lemmas.Map.Text.{is_eq-slice_cmp}
use Rattle.desk_ports.specs.parts.NamesHeld.{has_name}
use Rattle.desk_ports.proofs.disk_replays.put_name.Goals as goal

pub returns : goal.returns
returns c = λ other.
    c.in_ok-insert.ensures.updates.0 other
    ∙ ap (λ is. if is then true else has_name c.args.names.now other)
    (is_eq-slice_cmp c.in_ok-copy.field-0 other ∙ ap (λ key. bytes_eq key other) c.in_ok-copy.ensures)
