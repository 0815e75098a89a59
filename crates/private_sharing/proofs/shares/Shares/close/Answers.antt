use Rattle.std.proofs.Common.{rules}
use Rattle.private_sharing.proofs.Sound.{IsShares-same, IsShares-closed}
use Rattle.private_sharing.proofs.shares.Shares.close.Goals as goal

pub invariant_of-result : goal.invariant_of-result
invariant_of-result c =
    IsShares-same (IsShares-closed c.args.owner.now c.args.target.now c.args.name.now c.self.inside.items.items c.self.invariant)
    (search rules)
