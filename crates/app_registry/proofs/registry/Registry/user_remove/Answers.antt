use Rattle.std.proofs.Common.{rules}
use Rattle.app_registry.proofs.Changes.{IsRegistry-same, IsRegistry-without_user}
use Rattle.app_registry.proofs.registry.Registry.user_remove.Goals as goal

pub invariant_of-result : goal.invariant_of-result
invariant_of-result c =
    IsRegistry-same (IsRegistry-without_user c.self.invariant c.args.uid) (search rules) (search rules)
