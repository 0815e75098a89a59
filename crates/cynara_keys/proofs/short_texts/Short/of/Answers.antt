use Rattle.cynara_keys.proofs.Padding.{HoldsText-copied}
use Rattle.cynara_keys.proofs.short_texts.Short.of.Goals as goal

pub invariant_of-result : goal.invariant_of-result
invariant_of-result c = HoldsText-copied _ _ c.requires c.copy_from_slice.ensures.after
