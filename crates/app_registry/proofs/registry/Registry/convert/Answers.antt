use Rattle.std.proofs.Common.{rules}
use Rattle.app_registry.proofs.Changes.{IsRegistry-same}
use Rattle.app_registry.proofs.Converting.{IsRegistry-with_kind}
use Rattle.app_registry.proofs.registry.Registry.convert.Goals as goal

pub invariant_of-result : goal.invariant_of-result
invariant_of-result c =
    IsRegistry-same (IsRegistry-with_kind c.args.package.now c.args.hybrid c.self.invariant) (search rules) (search rules)
