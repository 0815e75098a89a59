use Rattle.std.proofs.Common.{rules}
use Rattle.app_registry.proofs.Changes.{IsRegistry-same}
use Rattle.app_registry.proofs.registry.Registry.copy.Goals as goal

pub invariant_of-result : goal.invariant_of-result
invariant_of-result c = IsRegistry-same c.self.invariant (search rules) (search rules)
