use Rattle.std.proofs.Common.{◌≡◌, take}
use Rattle.private_sharing.specs.Shares.{settled}
use Rattle.private_sharing.proofs.lists.settled.Given as goal

abbrev pub invariant-loop-share : goal.invariant-loop-share
invariant-loop-share l = l.list.items ≡ settled l.registry (take l.share-index l.shares)
