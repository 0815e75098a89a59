use Rattle.std.proofs.Common.{◌∙◌, sym, ap}
use Rattle.std.specs.Arc.{arc_slice_items}
use Rattle.cynara_keys.specs.Key.{packed}
use Rattle.cynara_keys.proofs.Packing.{packed-key_in}
use Rattle.cynara_keys.proofs.keys.Key.packed.Goals as goal

pub returns : goal.returns
returns c =
    let key = c.self.inside in
    c.as_slice.ensures.value
    ∙ sym (packed-key_in (arc_slice_items key.texts) key.user key.privilege c.self.invariant)
    ∙ ap packed c.self.view_is
