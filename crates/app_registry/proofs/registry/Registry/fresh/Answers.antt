use Rattle.std.proofs.Common.{◌∙◌}
use Rattle.app_registry.proofs.Changes.{IsRegistry-fresh, IsRegistry-same}
use Rattle.app_registry.proofs.registry.Registry.fresh.Goals as goal

pub invariant_of-result : goal.invariant_of-result
invariant_of-result c = IsRegistry-same IsRegistry-fresh c.new.ensures.items (c.of.ensures ∙ c.new-2.ensures.items)
