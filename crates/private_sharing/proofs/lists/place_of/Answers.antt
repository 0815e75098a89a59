use Rattle.std.proofs.Common.{rules}
use Rattle.std.proofs.lemmas.Fn.{always_returns_same}
use Rattle.app_registry.proofs.Rising.{searched}
use Rattle.private_sharing.specs.Shares.{share_cmp}
use Rattle.private_sharing.proofs.Sound.{share_total}
use Rattle.private_sharing.proofs.lists.place_of.Goals as goal

-- the closure compares a share with this one
pub returns-clause-placed : goal.returns-clause-placed
returns-clause-placed c =
    let facts = c.binary_search_by.ensures in
    let by_place =
    facts.position (λ other. share_cmp other c.args.share.now)
    (always_returns_same _ _ _ (λ a r f called. search rules)) in
    searched share_total c.args.share.now c.args.shares.now c.requires c.binary_search_by.result facts.bound by_place
