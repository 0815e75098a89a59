use Rattle.private_sharing.proofs.Sound.{IsShares-same, IsShares-nil}
use Rattle.private_sharing.proofs.shares.Shares.new.Goals as goal

pub invariant_of-result : goal.invariant_of-result
invariant_of-result c = IsShares-same IsShares-nil c.new.ensures.items
