use Rattle.std.proofs.Common.{◌≡◌, take}
use Rattle.private_sharing.specs.Shares.{closed}
use Rattle.private_sharing.proofs.lists.closed.Given as goal

abbrev pub invariant-loop-share : goal.invariant-loop-share
invariant-loop-share l = l.list.items ≡ closed l.owner l.target l.name (take l.share-index l.shares)
