use Rattle.std.proofs.Common.{◌∙◌, sym}
use Rattle.std.specs.BTreeMap.{get}
use Rattle.std.specs.Ordering.{nat_cmp}
use Rattle.std.specs.Cmp.Lexicographic.{slice_cmp}
use Rattle.ctl_door.specs.Joining.{files_of}
use Rattle.ctl_door.proofs.Joining.{one_more, same_with}
use Rattle.ctl_door.proofs.files.joined.Goals as goal

pub loop-part-preserved : goal.loop-part-preserved
loop-part-preserved c = λ name.
    c.in_ok-join.ensures name
    ∙ (same_with (get (slice_cmp nat_cmp) c.loop-part.held) (files_of c.loop-part.yielded) c.in-Some.part name (c.loop-part.invariant name)
    ∙ sym (one_more (λ none. _) c.loop-part.yielded c.in-Some.part name))
