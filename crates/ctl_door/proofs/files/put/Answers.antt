use Rattle.std.proofs.Common.{Some, if◌then◌else◌, ap, ◌∙◌}
use Rattle.std.specs.BTreeMap.{get}
use Rattle.std.specs.Ordering.{nat_cmp}
use Rattle.std.specs.Cmp.Lexicographic.{slice_cmp}
use Rattle.std.proofs.lemmas.Map.Text.{is_eq-slice_cmp}
use Rattle.ctl_door.proofs.files.put.Goals as goal

pub returns : goal.returns
returns c = λ other.
    c.in_ok-insert.ensures.updates.0 other
    ∙ ap (λ is. if is then Some c.args.bytes else get (slice_cmp nat_cmp) c.args.held.now other)
    (is_eq-slice_cmp c.args.name other)
