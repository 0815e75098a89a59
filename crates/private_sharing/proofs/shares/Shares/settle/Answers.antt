use Rattle.std.proofs.Common.{rules}
use Rattle.private_sharing.proofs.Sound.{IsShares-same, IsShares-settled}
use Rattle.private_sharing.proofs.shares.Shares.settle.Goals as goal

pub invariant_of-result : goal.invariant_of-result
invariant_of-result c =
    IsShares-same (IsShares-settled c.args.registry.now c.self.inside.items.items c.self.invariant) (search rules)
