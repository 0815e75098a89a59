use Rattle.std.proofs.Common.{◌≡◌, take}
use Rattle.private_sharing.proofs.lists.copies.Given as goal

abbrev pub invariant-loop-share : goal.invariant-loop-share
invariant-loop-share l = l.copies.items ≡ take l.share-index l.shares
