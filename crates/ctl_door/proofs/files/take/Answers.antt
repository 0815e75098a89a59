use Rattle.std.proofs.Common.{None, if◌then◌else◌, ap, ◌∙◌}
use Rattle.std.specs.BTreeMap.{get}
use Rattle.std.specs.Ordering.{nat_cmp}
use Rattle.std.specs.Cmp.Lexicographic.{slice_cmp}
use Rattle.std.proofs.lemmas.Map.Text.{is_eq-slice_cmp}
use Rattle.ctl_door.proofs.files.take.Goals as goal

pub returns-clause-gone : goal.returns-clause-gone
returns-clause-gone c = λ other.
    c.remove.ensures.updates.0 other
    ∙ ap (λ is. if is then None else get (slice_cmp nat_cmp) c.args.held.now other)
    (is_eq-slice_cmp c.args.name.now other)
