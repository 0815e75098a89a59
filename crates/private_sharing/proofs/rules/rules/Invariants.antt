use Rattle.std.proofs.Common.{◌≡◌, take}
use Rattle.private_sharing.specs.Rules.{rules}
use Rattle.private_sharing.proofs.rules.rules.Given as goal

abbrev pub invariant-loop-share : goal.invariant-loop-share
invariant-loop-share l = l.rules.items ≡ rules l.registry (take l.share-index l.shares)
